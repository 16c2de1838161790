-- A container leaves a tree: what its Enters open is closed behind the blocks inside. Assumes nothing.
use mathlib.Core.Path.{◌≡◌, refl, sym, subst, ◌∙◌}
use mathlib.Core.Logic.{inl, inr}
use mathlib.Core.Bool.{Bool, true, false, false≢true}
use mathlib.Core.List.{List, [], ◌∷◌}
use Prim.Native.Nat.{ℕ, suc, ◌+◌, ◌-◌, ◌*◌, ◌≤◌, min}
use native.Mathlib.Omega.{arith}
use lib.Dec.{eqb}
use lib.ListN.{length}
use borrow.Author.Tests.{eqb-true, eqb-false, eq-eqb, ne_eqb}
use Rattle.classes.specs.Choice.{pick}
use Rattle.lines.specs.Lines.{Span}
use Rattle.markers.specs.Markers.{marker_num}
use Rattle.kinds.specs.declared.Kind.{Kind}
use Rattle.kinds.specs.declared.Kind.TheVariants.{Blankline, Attributes, ThematicBreak, Paragraph, Heading, Fenced, Definition, Blockquote, ListItem, Table}
use Rattle.measure.specs.Continue.{kind_num}
use Rattle.events.specs.State.{State, with_attr, with_spare, with_at, go}
use Rattle.events.specs.Events.{enter_of}
use Rattle.events.specs.declared.Event.{Event}
use Rattle.lists.specs.declared.OpenList.{OpenList}
use Rattle.walk.specs.Fields.{marker_in, is_container}
use Rattle.walk.specs.Tree.{strip_lines, open_list, open_term, container_node, open_container, close_container, container_of, attr_of}
use Rattle.walk.specs.declared.Met.{Met}
use Rattle.theorems.proofs.LevelSteps.{passed}
use Rattle.theorems.proofs.Nests.{Frame}
use Rattle.theorems.proofs.HoldLaws.{holds-count}
use Rattle.theorems.proofs.Trees.{Tree, Alike, AllTyped, lists_words, Led, Fit}
use Rattle.theorems.proofs.FineNodes.{item-marked, marker-kind}
use Rattle.theorems.proofs.TreeSteps.{tree-beside}
use Rattle.theorems.proofs.ListTree.{typed-more}
use Rattle.theorems.proofs.TreeLevel.{Outside, Bare, Listing, Grows, Walked}
use Rattle.theorems.proofs.TreeLevelLaws.{bare-on, listing-on, bare-beside, grows-beside}
use Rattle.theorems.proofs.TreeOpen.{Goes, goes_on, Listed, list-opens, own_frame, Opened, container-opens, inside-bare}
use Rattle.theorems.proofs.TreeClose.{Blocked, Shut, container-shuts}

-- ---- kinds
-- those of containers
pub container-num : (k : Kind) → is_container k ≡ true → (6 ≤ kind_num k) × (kind_num k ≤ 9)
container-num Blankline c = absurd (false≢true c)
container-num Attributes c = absurd (false≢true c)
container-num ThematicBreak c = absurd (false≢true c)
container-num Paragraph c = absurd (false≢true c)
container-num (Heading l) c = absurd (false≢true c)
container-num (Fenced i l m s d k) c = (omega arith, omega arith)
container-num (Definition i f s b) c = (omega arith, omega arith)
container-num Blockquote c = (omega arith, omega arith)
container-num (ListItem i m b) c = (omega arith, omega arith)
container-num (Table d b) c = absurd (false≢true c)

pub no-attributes : (k : Kind) → is_container k ≡ true → eqb (kind_num k) 2 ≡ false
no-attributes k c = ne_eqb (kind_num k) 2 (λ e. omega (arith, e, (container-num k c).0))

pub outside-more : (os : List OpenList) (n : ℕ) → Outside os n → Outside os (suc n)
outside-more [] n a = tt
outside-more (o ∷ os) n a = omega (arith, a)

-- ---- its Enters
-- an item, behind its list's state
pub record Itemed (text : List ℕ) (m : Met) (line : ℕ) (top : Bool) (own : List Frame) (os : List OpenList) (left : ℕ) (s : State) (h : Grows text top own os left s) (r : State) : Type 0 where
  pub listed : State
  pub listing : Listing text top own os left (with_attr 0 listed)
  pub goes : Goes text top own os left m.start s h listing.frame listing.frames
  pub sec : listed.sec ≡ s.sec
  pub opened : Opened text m line (listing.frame ∷ listing.frames) listing.behind listed r

module _ (text : List ℕ) (m : Met) (line : ℕ) (t : Fit text m line) (top : Bool) (own : List Frame) (os : List OpenList) (n : ℕ)
    (s : State) where
  abbrev within : State → State
  within a = go (pick (eqb (marker_num (marker_in m.kind)) 4) (open_term m a) a) (enter_of (container_node text m line))

  abbrev listed_by : Bool → State
  listed_by b = pick b (open_list (marker_in m.kind) m.start s) s

  pub item-opens : kind_num m.kind ≡ 9 → (h : Grows text top own os (suc n) s) → (open_container text m line s).number ≡ 0 → Itemed text m line top own os (suc n) s h (open_container text m line s)
  unfolding open_container
  item-opens e h =
      rw (eq-eqb (kind_num m.kind) 9 e)
      (passed (listed_by true) within (λ (r : State). Itemed text m line top own os (suc n) s h r) (λ za zb.
      let y = listed_by true in
      let k = list-opens text top own os (suc n) (marker_in m.kind) m.start s (omega (arith, t.start, t.end)) (item-marked (length text) m.kind e t.proper) h za in
      let a = k.listing in
      let fs = a.frame ∷ a.frames in
      let p = tree-beside text fs a.behind (with_attr 0 y) y refl refl a.tree in
      record { listed = y; listing = a; goes = k.goes; sec = k.sec; opened = container-opens text m line t fs a.behind y (omega arith) (omega (arith, a.stands.room)) p zb }))

  pub other-opens : (kind_num m.kind ≡ 9 → ⊥) → (b : Bare text top own os (suc n) s) → (open_container text m line s).number ≡ 0
      → Opened text m line b.frames b.behind s (open_container text m line s)
  unfolding open_container
  other-opens e b =
      rw (ne_eqb (kind_num m.kind) 9 e)
      (passed s within (λ (r : State). Opened text m line b.frames b.behind s r) (λ za zb.
      container-opens text m line t b.frames b.behind s b.stands.some (omega (arith, b.stands.room)) b.tree zb))

-- no item: the same events are open as before it, and its own stand behind those of the level
pub record Contained (text : List ℕ) (m : Met) (line : ℕ) (top : Bool) (own : List Frame) (os : List OpenList) (left : ℕ) (s : State) (b : Bare text top own os left s) (r : State) : Type 0 where
  pub bare : Bare text top own os left r
  pub alike : Alike b.frames bare.frames
  pub blocked : Blocked text m line b.behind bare.behind
  pub sec : r.sec ≡ s.sec

-- ---- the blocks inside, and its Exits
module _ (text : List ℕ) (inner : List Span → State → State) (n : ℕ) (m : Met) (line : ℕ) (ls : List Span) (t : Fit text m line)
    (walks : (own : List Frame) (os : List OpenList) (x : State) → Bare text false own os n x → (inner (strip_lines text m.kind (m.end - line) ls) x).number ≡ 0
    → Walked text false own os n x (inner (strip_lines text m.kind (m.end - line) ls) x)) where
  abbrev blocks : State → State
  blocks = inner (strip_lines text m.kind (m.end - line) ls)

  -- what comes behind the Enters
  abbrev after : State → State
  after x = go (blocks x) (close_container m (length x.opn - 1))

  blocks-shut : (ds : List Frame) (g : List Event) (os : List OpenList) (s x : State) → Opened text m line ds g s x → AllTyped ds os → Outside os (suc (length ds)) → s.lst ≡ lists_words os
      → 1 ≤ length ds → suc (length ds) + 2 * n ≤ 97 → (after x).number ≡ 0 → Shut text m line ds g os s (after x)
  blocks-shut ds g os s x o y out e one room =
      let f = own_frame text m line o.before in
      let d : length x.opn - 1 ≡ length ds = omega (arith, holds-count (f ∷ ds) [] x o.tree.holds) in
      passed (blocks x) (close_container m (length x.opn - 1)) (λ (r : State). Shut text m line ds g os s r) (λ za zb.
      let w = walks (f ∷ ds) os x (inside-bare text m line ds g s x os n o y out e room) za in
      let h = container-shuts text m line ds o.before os one (omega (arith, room)) (length x.opn - 1) n (blocks x) t d o.term out w.grows zb in
      record {
        frames = h.frames;
        behind = h.behind;
        alike = h.alike;
        tree = h.tree;
        led = λ q p. h.led q (subst (λ (v : List Event). Led (100 - length ds) v) (sym (o.same q)) p);
        blocked = λ q. subst (λ (v : List Event). Blocked text m line v h.behind) (o.same q) (h.blocked q);
        lst = h.lst;
        sec = h.sec ∙ w.sec refl ∙ o.sec;
      })

  -- ---- the level goes on
  module _ (top : Bool) (own : List Frame) (os : List OpenList) (at : ℕ) (s : State) where
    abbrev done : State → State
    done r = with_at at (with_attr 0 r)

    -- its list is open behind an item
    abbrev Followed : Grows text top own os (suc n) s → State → Type 0
    Followed h r = Listed text top own os (suc n) m.start s h (done r)

    item-goes : (h : Grows text top own os (suc n) s) (x r : State) (i : Itemed text m line top own os (suc n) s h x) (es : List Frame) (g : List Event)
        → Alike (i.listing.frame ∷ i.listing.frames) es → Tree text es g r → r.lst ≡ i.listed.lst → r.sec ≡ i.listed.sec → Followed h r
    unfolding listing-on
    item-goes h x r i [] g a p l k = absurd a
    item-goes h x r i (f ∷ fs) g a p l k =
        let b = i.listing in
        record {
          listing = listing-on text top own os (suc n) (with_attr 0 i.listed) (done r) b (f ∷ fs) g a (tree-beside text (f ∷ fs) g r (done r) refl refl p) l k (λ e. refl);
          goes = goes_on text top own os (suc n) m.start s h b.frame f b.frames fs i.goes a;
          sec = k ∙ i.sec;
        }

    pub item-walks : kind_num m.kind ≡ 9 → (h : Grows text top own os (suc n) s) → (go (open_container text m line s) after).number ≡ 0 → Followed h (go (open_container text m line s) after)
    item-walks e h =
        passed (open_container text m line s) after (Followed h) (λ za zb.
        let i = item-opens text m line t top own os n s e h za in
        let a = i.listing in
        let fs = a.frame ∷ a.frames in
        let y : AllTyped fs (a.list ∷ os) = (a.this, typed-more a.frame a.frames os a.typed) in
        let q = blocks-shut fs a.behind (a.list ∷ os) i.listed _ i.opened y (omega (arith, a.depth)) a.lst (omega arith) (omega (arith, a.stands.room)) zb in
        item-goes h _ _ i q.frames q.behind q.alike q.tree (q.lst ∙ sym a.lst) q.sec)

    pub other-walks : (kind_num m.kind ≡ 9 → ⊥) → (b : Bare text top own os (suc n) s) → (go (open_container text m line s) after).number ≡ 0
        → Contained text m line top own os (suc n) s b (done (go (open_container text m line s) after))
    unfolding bare-on
    other-walks e b =
        passed (open_container text m line s) after (λ (r : State). Contained text m line top own os (suc n) s b (done r)) (λ za zb.
        let fs = b.frames in
        let r = after (open_container text m line s) in
        let o = other-opens text m line t top own os n s e b za in
        let q = blocks-shut fs b.behind os s _ o b.typed (outside-more os (length fs) b.outside) b.lst b.stands.some (omega (arith, b.stands.room)) zb in
        let p = tree-beside text q.frames q.behind r (done r) refl refl q.tree in
        let no : marker_num (marker_in m.kind) ≡ 4 → ⊥ = λ i. e (marker-kind m.kind i) in
        record {
          bare = bare-on text top own os (suc n) s (done r) b q.frames q.behind q.alike p (q.lst ∙ sym b.lst) q.sec (q.led no b.led) (λ i. inl refl);
          alike = q.alike;
          blocked = q.blocked no;
          sec = q.sec;
        })

pub container-tree : (text : List ℕ) (inner : List Span → State → State) (n : ℕ) (m : Met) (line : ℕ) (ls : List Span) (at w : ℕ)
    (top : Bool) (own : List Frame) (os : List OpenList) (a : State)
    → Fit text m line → is_container m.kind ≡ true
    → ((own' : List Frame) (os' : List OpenList) (x : State) → Bare text false own' os' n x → (inner (strip_lines text m.kind (m.end - line) ls) x).number ≡ 0
    → Walked text false own' os' n x (inner (strip_lines text m.kind (m.end - line) ls) x))
    → Grows text top own os (suc n) a → ((kind_num m.kind ≡ 9 → ⊥) → Bare text top own os (suc n) a)
    → (container_of text inner n m line ls a).number ≡ 0
    → Walked text top own os (suc n) a (with_at at (attr_of m w (container_of text inner n m line ls a)))
unfolding container_of
container-tree text inner n m line ls at w top own os a t c walks h bare z =
    let k = by-case (eqb (kind_num m.kind) 9) refl in
    rw (no-attributes m.kind c) (record { grows = k.grows; sec = k.sec })
  where
    r : State
    r = with_spare (min n a.spare) a

    by-case : (b : Bool) → eqb (kind_num m.kind) 9 ≡ b → Walked text top own os (suc n) r (with_at at (with_attr 0 (container_of text inner n m line ls a)))
    by-case true e =
        let g = grows-beside text top own os (suc n) a r refl refl (refl, refl, refl) h in
        let l = item-walks text inner n m line ls t walks top own os at r (eqb-true (kind_num m.kind) 9 e) g z in
        record { grows = inr l.listing; sec = λ i. l.sec }
    by-case false e =
        let f = eqb-false (kind_num m.kind) 9 e in
        let l = other-walks text inner n m line ls t walks top own os at r f (bare-beside text top own os (suc n) a r refl refl (refl, refl, refl) (bare f)) z in
        record { grows = inl l.bare; sec = λ i. l.sec }
