-- The tree where a container begins: an item's list, a description item's term, its own Enter. Assumes nothing.
use mathlib.Core.Path.{◌≡◌, refl, sym, subst, ◌∙◌}
use mathlib.Core.Logic.{inl, inr}
use mathlib.Core.Bool.{Bool, true, false, false≢true}
use mathlib.Core.List.{List, [], ◌∷◌, ◌++◌}
use Prim.Native.Nat.{ℕ, suc, ◌+◌, ◌-◌, ◌*◌, ◌≤◌}
use native.Mathlib.Omega.{arith}
use lib.Dec.{eqb}
use lib.ListN.{length}
use borrow.Author.Tests.{eqb-true, eqb-false}
use Rattle.classes.specs.Choice.{pick}
use Rattle.markers.specs.Markers.{marker_num}
use Rattle.markers.specs.declared.Marker.{Marker}
use Rattle.events.specs.State.{State, with_attr, go}
use Rattle.events.specs.Events.{enter_event, enter_of, exit_of}
use Rattle.events.specs.declared.Event.{Event}
use Rattle.lists.specs.declared.OpenList.{OpenList}
use Rattle.walk.specs.Fields.{marker_in}
use Rattle.walk.specs.Leaf.{node}
use Rattle.walk.specs.Tree.{open_list, open_term, container_node}
use Rattle.walk.specs.declared.Met.{Met}
use Rattle.theorems.proofs.LevelSteps.{passed}
use Rattle.theorems.proofs.Proper.{Marked}
use Rattle.theorems.proofs.Nests.{Frame}
use Rattle.theorems.proofs.WholeLaws.{closing}
use Rattle.theorems.proofs.Trees.{Tree, Alike, AllTyped, lists_words, Termed, Led, Fit}
use Rattle.theorems.proofs.FineNodes.{container-fine, term-fine}
use Rattle.theorems.proofs.TreeSteps.{tree-beside, Besides, enter-tree, enter-besides, exit-besides, exit-tree}
use Rattle.theorems.proofs.ListTree.{alike_refl, alike-on, typed-more, led-none, Begun, new-list-tree}
use Rattle.theorems.proofs.TreeLevel.{Outside, Bare, Listing, Grows}
use Rattle.theorems.proofs.TreeLevelLaws.{none_here, one-here, stands_on, listing-on}

-- ---- an item's list
-- the open events where a list is: its Enter is a new one at pos, behind the level's events, or is the one that was open
abbrev pub Goes : (text : List ℕ) (top : Bool) (own : List Frame) (os : List OpenList) (left pos : ℕ) (s : State) → Grows text top own os left s → Frame → List Frame → Type 0
Goes text top own os left pos s (inl b) f fs = (f.before ≡ b.behind) × (f.enter.start ≡ pos) × Alike b.frames fs
Goes text top own os left pos s (inr a) f fs = Alike (a.frame ∷ a.frames) (f ∷ fs)

pub goes_on : (text : List ℕ) (top : Bool) (own : List Frame) (os : List OpenList) (left pos : ℕ) (s : State) (h : Grows text top own os left s) (f e : Frame) (fs es : List Frame)
    → Goes text top own os left pos s h f fs → Alike (f ∷ fs) (e ∷ es) → Goes text top own os left pos s h e es
goes_on text top own os left pos s (inl b) f e fs es p a = (a.0 ∙ p.0, a.4 ∙ p.1, alike-on b.frames fs es p.2 a.2)
goes_on text top own os left pos s (inr x) f e fs es p a = alike-on (x.frame ∷ x.frames) (f ∷ fs) (e ∷ es) p a

-- a list is open, begun or gone on where s was
pub record Listed (text : List ℕ) (top : Bool) (own : List Frame) (os : List OpenList) (left pos : ℕ) (s : State) (h : Grows text top own os left s) (r : State) : Type 0 where
  pub listing : Listing text top own os left r
  pub goes : Goes text top own os left pos s h listing.frame listing.frames
  pub sec : r.sec ≡ s.sec

module _ (text : List ℕ) (top : Bool) (own : List Frame) (os : List OpenList) (left : ℕ) (ty : Marker) (pos : ℕ) (s : State) where
  -- no Attributes are just before
  abbrev Opens : Grows text top own os left s → State → Type 0
  Opens h r = Listed text top own os left pos s h (with_attr 0 r)

  list-begun : (r : State) (b : Bare text top own os left s) → Begun text pos b.frames b.behind os s r → Opens (inl b) r
  list-begun r b g = record {
    listing = record {
      frame = g.frame;
      frames = b.frames;
      behind = [];
      list = g.list;
      tree = tree-beside text (g.frame ∷ b.frames) [] r (with_attr 0 r) refl refl g.tree;
      stands = stands_on top own b.frames b.frames left s (with_attr 0 r) (alike_refl b.frames) g.sec b.stands;
      typed = b.typed;
      outside = b.outside;
      this = g.typed;
      depth = g.depth;
      lst = g.lst;
      led = subst (λ (l : List Event). Led (100 - length b.frames) l) (sym g.before) b.led;
      attr = λ t. refl;
    };
    goes = (g.before, g.start, alike_refl b.frames);
    sec = g.sec;
  }

  list-stays : (a : Listing text top own os left s) → Opens (inr a) s
  unfolding listing-on
  list-stays a =
      let fs = a.frame ∷ a.frames in
      let r = with_attr 0 s in
      record {
        listing = listing-on text top own os left s r a fs a.behind (alike_refl fs) (tree-beside text fs a.behind s r refl refl a.tree) refl refl (λ t. refl);
        goes = alike_refl fs;
        sec = refl;
      }

  pub list-opens : pos ≤ length text → Marked ty → (h : Grows text top own os left s) → (open_list ty pos s).number ≡ 0 → Opens h (open_list ty pos s)
  unfolding open_list
  list-opens i m (inl b) =
      rw (none_here b.frames b.behind os s b.tree.holds b.outside b.lst).1 (λ z.
      list-begun _ b (new-list-tree text ty pos b.frames b.behind os s i b.tree b.lst m b.stands.some (omega (arith, b.stands.room)) z))
  list-opens i m (inr a) = rw (one-here (a.frame ∷ a.frames) a.behind a.list os s a.tree.holds a.depth a.lst).1 (λ z. list-stays a)

-- ---- a description item's term
abbrev term_enter : Met → Event
term_enter m = enter_event (node 17 m.start m.end 0 0 0 0)

-- the events g and an empty term
abbrev with_term : Met → List Event → List Event
with_term m g = g ++ (term_enter m ∷ (closing (term_enter m) m.end m.end ∷ []))

module _ (text : List ℕ) (m : Met) (line : ℕ) (t : Fit text m line) (ds : List Frame) (g : List Event) (s : State) (p : Tree text ds g s) where
  pub term-opens : 1 ≤ length ds → length ds ≤ 98 → (open_term m s).number ≡ 0 → Tree text ds (with_term m g) (open_term m s) × Besides s (open_term m s)
  unfolding open_term
  term-opens o d =
      let x = node 17 m.start m.end 0 0 0 0 in
      let a = enter_of x s in
      let c : Frame = record { before = g; enter = enter_event x } in
      passed a (exit_of m.end m.end) (λ (r : State). Tree text ds (with_term m g) r × Besides s r) (λ za zb.
      let u = enter-tree text ds g x s (term-fine text m line t) (λ e. omega (arith, e)) o p za in
      let v = exit-tree text m.end m.end c ds [] a (omega arith) t.end o d u zb in
      let i = enter-besides x s za in
      let j = exit-besides m.end m.end a zb in
      (v, (j.0 ∙ i.0, j.1 ∙ i.1, j.2 ∙ i.2)))

  termed : Termed (100 - length ds) (with_term m g)
  termed = record { front = g; enter = term_enter m; from = m.end; to = m.end; is = refl; role = refl; node = refl; bare = (refl, refl, refl, refl); whole = p.whole }

-- ---- its own Enter
abbrev pub own_frame : List ℕ → Met → ℕ → List Event → Frame
own_frame text m line g = record { before = g; enter = enter_event (container_node text m line) }

-- the container is open behind g, or behind g and an empty term
pub record Opened (text : List ℕ) (m : Met) (line : ℕ) (ds : List Frame) (g : List Event) (s r : State) : Type 0 where
  pub before : List Event
  pub tree : Tree text (own_frame text m line before ∷ ds) [] r
  pub term : marker_num (marker_in m.kind) ≡ 4 → Termed (100 - length ds) before
  pub same : (marker_num (marker_in m.kind) ≡ 4 → ⊥) → before ≡ g
  pub lst : r.lst ≡ s.lst
  pub sec : r.sec ≡ s.sec

module _ (text : List ℕ) (m : Met) (line : ℕ) (t : Fit text m line) (ds : List Frame) (g : List Event) (s : State)
    (o : 1 ≤ length ds) (d : length ds ≤ 98) (p : Tree text ds g s) where
  abbrev num : ℕ
  num = marker_num (marker_in m.kind)

  abbrev own : State → State
  own = enter_of (container_node text m line)

  own-opens : (k : List Event) (a : State) → Tree text ds k a → (num ≡ 4 → Termed (100 - length ds) k) → ((num ≡ 4 → ⊥) → k ≡ g) → Besides s a → (own a).number ≡ 0
      → Opened text m line ds g s (own a)
  own-opens k a q i j b z =
      let f = container-fine text m line t in
      let e = enter-besides (container_node text m line) a z in
      record {
        before = k;
        tree = enter-tree text ds k (container_node text m line) a f.0 f.1 o q z;
        term = i;
        same = j;
        lst = e.0 ∙ b.0;
        sec = e.1 ∙ b.1;
      }

  pub container-opens : (go (pick (eqb num 4) (open_term m s) s) own).number ≡ 0 → Opened text m line ds g s (go (pick (eqb num 4) (open_term m s) s) own)
  container-opens = by-case (eqb num 4) refl
    where
      by-case : (b : Bool) → eqb num 4 ≡ b → (go (pick b (open_term m s) s) own).number ≡ 0 → Opened text m line ds g s (go (pick b (open_term m s) s) own)
      by-case true e =
          passed (open_term m s) own (λ (r : State). Opened text m line ds g s r) (λ za zb.
          let a = term-opens text m line t ds g s p o d za in
          own-opens (with_term m g) (open_term m s) a.0 (λ q. termed text m line t ds g s p) (λ q. absurd (q (eqb-true num 4 e))) a.1 zb)
      by-case false e =
          passed s own (λ (r : State). Opened text m line ds g s r) (λ za zb.
          own-opens g s p (λ q. absurd (eqb-false num 4 e q)) (λ q. refl) (refl, refl, refl) zb)

-- the level inside begins
pub inside-bare : (text : List ℕ) (m : Met) (line : ℕ) (ds : List Frame) (g : List Event) (s r : State) (os : List OpenList) (n : ℕ) (x : Opened text m line ds g s r)
    → AllTyped ds os → Outside os (suc (length ds)) → s.lst ≡ lists_words os → suc (length ds) + 2 * n ≤ 97 → Bare text false (own_frame text m line x.before ∷ ds) os n r
inside-bare text m line ds g s r os n x y a e h =
    let c = own_frame text m line x.before in
    record {
      frames = c ∷ ds;
      behind = [];
      tree = x.tree;
      stands = record { alike = λ t. alike_refl (c ∷ ds); secs = λ t. absurd (false≢true t); some = omega arith; room = h };
      typed = typed-more c ds os y;
      outside = a;
      lst = x.lst ∙ e;
      led = led-none (100 - suc (length ds));
      attrs = λ t. absurd (false≢true t);
    }
