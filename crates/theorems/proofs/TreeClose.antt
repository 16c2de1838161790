-- The tree where a container ends: a description item's term, the list that is open inside, its own Exit. Assumes nothing.
use mathlib.Core.Path.{◌≡◌, refl, sym, ap, subst, ◌∙◌}
use mathlib.Core.Logic.{◌⊎◌, inl, inr, ⊎_elim}
use mathlib.Core.Bool.{Bool, true, false}
use mathlib.Core.List.{List, [], ◌∷◌, ◌++◌}
use Prim.Native.Nat.{ℕ, suc, ◌-◌, ◌≤◌}
use native.Mathlib.Omega.{arith}
use lib.Dec.{eqb}
use lib.ListN.{length}
use borrow.Author.Tests.{eqb-true}
use Rattle.classes.specs.Choice.{pick}
use Rattle.markers.specs.Markers.{marker_num}
use Rattle.events.specs.State.{State, with_flags, go}
use Rattle.events.specs.Events.{exit_of}
use Rattle.events.specs.declared.Event.{Event}
use Rattle.lists.specs.declared.OpenList.{OpenList}
use Rattle.walk.specs.Fields.{marker_in}
use Rattle.walk.specs.Tree.{container_node, settle_term, close_inner, close_container}
use Rattle.walk.specs.declared.Met.{Met}
use Rattle.theorems.proofs.Untouched.{un-settle-term}
use Rattle.theorems.proofs.LevelSteps.{passed}
use Rattle.theorems.proofs.Nests.{Whole, Frame}
use Rattle.theorems.proofs.WholeLaws.{whole-more, closing}
use Rattle.theorems.proofs.Trees.{Tree, Alike, Typed, lists_words, Termed, Led, Fit}
use Rattle.theorems.proofs.FineNodes.{marker-kind, container-fine, item-node, marked-num}
use Rattle.theorems.proofs.TreeSteps.{tree-beside, Besides, exit-besides, exit-whole, exit-tree}
use Rattle.theorems.proofs.TermTree.{term-tree}
use Rattle.theorems.proofs.TermInner.{behind_as, term-inner-tree}
use Rattle.theorems.proofs.ListTree.{alike-count, led-append, typed-first, close-list-tree}
use Rattle.theorems.proofs.TreeLevel.{Outside, Grows}
use Rattle.theorems.proofs.TreeLevelLaws.{none_here, one-here}
use Rattle.theorems.proofs.TreeOpen.{own_frame}

-- a term's step changes events and what is open alone
term-besides : (d : ℕ) (s : State) → Besides s (settle_term d s)
term-besides =
    un-settle-term Besides (λ s. (refl, refl, refl)) (λ s a r p q. (q.0 ∙ p.0, q.1 ∙ p.1, q.2 ∙ p.2)) (λ e s. (refl, refl, refl)) (λ n k s. (refl, refl, refl)) (λ s. (refl, refl, refl))
    (λ o s. (refl, refl, refl))

-- ---- an open container
-- its Enter stands behind the events g, but for a description item
abbrev Kept : List ℕ → Met → ℕ → List Event → Frame → Type 0
Kept text m line g f = (marker_num (marker_in m.kind) ≡ 4 → ⊥) → (f.before ≡ g) × (f.enter.node ≡ (container_node text m line).node) × (f.enter.start ≡ (container_node text m line).start)

-- no list is open in it
pub record Alone (text : List ℕ) (m : Met) (line : ℕ) (ds : List Frame) (g : List Event) (os : List OpenList) (s r : State) : Type 0 where
  pub frame : Frame
  pub frames : List Frame
  pub behind : List Event
  pub tree : Tree text (frame ∷ frames) behind r
  pub alike : Alike ds frames
  pub kept : Kept text m line g frame
  pub lst : r.lst ≡ lists_words os
  pub sec : r.sec ≡ s.sec

-- one is
pub record Holding (text : List ℕ) (m : Met) (line : ℕ) (ds : List Frame) (g : List Event) (os : List OpenList) (s r : State) : Type 0 where
  pub inner : Frame
  pub frame : Frame
  pub frames : List Frame
  pub behind : List Event
  pub list : OpenList
  pub tree : Tree text (inner ∷ (frame ∷ frames)) behind r
  pub alike : Alike ds frames
  pub kept : Kept text m line g frame
  pub typed : Typed (inner ∷ (frame ∷ frames)) list
  pub depth : list.depth ≡ suc (suc (length frames))
  pub lst : r.lst ≡ lists_words (list ∷ os)
  pub sec : r.sec ≡ s.sec

-- of the events k, the container's stand behind g
pub record Blocked (text : List ℕ) (m : Met) (line : ℕ) (g k : List Event) : Type 0 where
  pub enter : Event
  pub inner : List Event
  pub is : k ≡ g ++ (enter ∷ (inner ++ (closing enter m.from m.to ∷ [])))
  pub role : enter.role ≡ 1
  pub node : enter.node ≡ (container_node text m line).node
  pub start : enter.start ≡ (container_node text m line).start
  pub whole : Whole 100 inner

-- a container that is open no more: the same events are open as before it
pub record Shut (text : List ℕ) (m : Met) (line : ℕ) (ds : List Frame) (g : List Event) (os : List OpenList) (s r : State) : Type 0 where
  pub frames : List Frame
  pub behind : List Event
  pub alike : Alike ds frames
  pub tree : Tree text frames behind r
  pub led : (marker_num (marker_in m.kind) ≡ 4 → ⊥) → Led (100 - length ds) g → Led (100 - length frames) behind
  pub blocked : (marker_num (marker_in m.kind) ≡ 4 → ⊥) → Blocked text m line g behind
  pub lst : r.lst ≡ lists_words os
  pub sec : r.sec ≡ s.sec

module _ (text : List ℕ) (m : Met) (line : ℕ) (ds : List Frame) (g : List Event) (os : List OpenList) (one : 1 ≤ length ds) (deep : length ds ≤ 97) where
  abbrev num : ℕ
  num = marker_num (marker_in m.kind)

  -- ---- the term
  module _ (d : ℕ) (de : d ≡ length ds) (tm : num ≡ 4 → Termed (100 - length ds) g) (s : State) where
    termed-as : (f : Frame) (fs : List Frame) → num ≡ 4 → f.before ≡ g → Alike ds fs → Termed (100 - length fs) f.before
    termed-as f fs e b a =
        subst (λ (n : ℕ). Termed (100 - n) f.before) (sym (alike-count ds fs a)) (subst (λ (v : List Event). Termed (100 - length ds) v) (sym b) (tm e))

    term-alone : (fs : List Frame) (k : List Event) → Alike (own_frame text m line g ∷ ds) fs → Tree text fs k s → Led (100 - length fs) k → s.lst ≡ lists_words os
        → (b : Bool) → eqb num 4 ≡ b → (pick b (settle_term d s) s).number ≡ 0 → Alone text m line ds g os s (pick b (settle_term d s) s)
    term-alone [] k a p h e b q z = absurd a
    term-alone (f ∷ fs) k a p h e true q z =
        let i = eqb-true num 4 q in
        let n = alike-count ds fs a.2 in
        let node = a.1 ∙ item-node text m line (marker-kind m.kind i) i in
        let w = term-tree text f fs k d s p node (termed-as f fs i a.0 a.2) h (de ∙ sym n) (omega (arith, one, n)) (omega (arith, deep, n)) z in
        record { frame = w.frame; frames = fs; behind = w.behind; tree = w.tree; alike = a.2; kept = λ j. absurd (j i); lst = w.lst ∙ e; sec = (term-besides d s).1 }
    term-alone (f ∷ fs) k a p h e false q z =
        record { frame = f; frames = fs; behind = k; tree = p; alike = a.2; kept = λ j. (a.0, a.1, a.4); lst = e; sec = refl }

    term-holding : (u : Frame) (fs : List Frame) (k : List Event) (o : OpenList) → Alike (own_frame text m line g ∷ ds) fs → Tree text (u ∷ fs) k s → Led (100 - length fs) u.before
        → Typed (u ∷ fs) o → o.depth ≡ suc (length fs) → s.lst ≡ lists_words (o ∷ os)
        → (b : Bool) → eqb num 4 ≡ b → (pick b (settle_term d s) s).number ≡ 0 → Holding text m line ds g os s (pick b (settle_term d s) s)
    term-holding u [] k o a p h y c e b q z = absurd a
    term-holding u (f ∷ fs) k o a p h y c e true q z =
        let i = eqb-true num 4 q in
        let n = alike-count ds fs a.2 in
        let node = typed-first u (f ∷ fs) o y c in
        let w = term-inner-tree text u f fs k d s p (λ v. omega (arith, v, node, (marked-num o.start y.start).1)) (termed-as f fs i a.0 a.2) h
        (de ∙ sym n) (omega (arith, one, n)) (omega (arith, deep, n)) z in
        let x = behind_as w.behind u in
        let v = term-besides d s in
        record {
          inner = x;
          frame = w.frame;
          frames = fs;
          behind = k;
          list = o;
          tree = w.tree;
          alike = a.2;
          kept = λ j. absurd (j i);
          typed = record { inner = []; frame = x; outer = w.frame ∷ fs; whole = refl; depth = c; node = node; start = y.start; prev = y.prev; same = y.same };
          depth = c;
          lst = v.0 ∙ e;
          sec = v.1;
        }
    term-holding u (f ∷ fs) k o a p h y c e false q z = record {
      inner = u;
      frame = f;
      frames = fs;
      behind = k;
      list = o;
      tree = p;
      alike = a.2;
      kept = λ j. (a.0, a.1, a.4);
      typed = y;
      depth = c;
      lst = e;
      sec = refl;
    }

    pub term-settles : (n : ℕ) → Grows text false (own_frame text m line g ∷ ds) os n s → (b : Bool) → eqb num 4 ≡ b → (pick b (settle_term d s) s).number ≡ 0
        → Alone text m line ds g os s (pick b (settle_term d s) s) ⊎ Holding text m line ds g os s (pick b (settle_term d s) s)
    term-settles n h b q z =
        ⊎_elim (λ x. inl (term-alone x.frames x.behind (x.stands.alike refl) x.tree x.led x.lst b q z))
        (λ x. inr (term-holding x.frame x.frames x.behind x.list (x.stands.alike refl) x.tree x.led x.this x.depth x.lst b q z)) h

  -- ---- the list that is open inside
  pub inner-closes : (pos : ℕ) (s a : State) → pos ≤ length text → Outside os (suc (length ds)) → Alone text m line ds g os s a ⊎ Holding text m line ds g os s a → (close_inner pos a).number ≡ 0
      → Alone text m line ds g os s (close_inner pos a)
  unfolding close_inner
  inner-closes pos s a p out = ⊎_elim none some
    where
      none : (h : Alone text m line ds g os s a) → (close_inner pos a).number ≡ 0 → Alone text m line ds g os s (close_inner pos a)
      none h =
          let n = alike-count ds h.frames h.alike in
          let o = subst (λ (k : ℕ). Outside os (suc k)) (sym n) out in
          rw (none_here (h.frame ∷ h.frames) h.behind os a h.tree.holds o h.lst).0 (λ z. h)

      some : (h : Holding text m line ds g os s a) → (close_inner pos a).number ≡ 0 → Alone text m line ds g os s (close_inner pos a)
      some h =
          let n = alike-count ds h.frames h.alike in
          let fs = h.frame ∷ h.frames in
          let b = with_flags false false a in
          let t = tree-beside text (h.inner ∷ fs) h.behind a b refl refl h.tree in
          rw (one-here (h.inner ∷ fs) h.behind h.list os a h.tree.holds h.depth h.lst).0 (λ z.
          let w = close-list-tree text pos h.inner fs h.behind h.list os b p t h.typed h.depth (omega arith) (omega (arith, n, deep)) h.lst z in
          record { frame = h.frame; frames = h.frames; behind = _; tree = w.tree; alike = h.alike; kept = h.kept; lst = w.lst; sec = w.sec ∙ h.sec })

  -- ---- its own Exit
  exit-shuts : (s a : State) → Fit text m line → Alone text m line ds g os s a → (exit_of m.from m.to a).number ≡ 0
      → Shut text m line ds g os s (exit_of m.from m.to a)
  exit-shuts s a t h z =
      let n = alike-count ds h.frames h.alike in
      let i : 1 ≤ length h.frames = omega (arith, one, n) in
      let j : length h.frames ≤ 98 = omega (arith, deep, n) in
      let k = 100 - length h.frames in
      let b = exit-besides m.from m.to a z in
      let f = container-fine text m line t in
      let w = exit-whole text m.from m.to h.frame h.frames h.behind a i j h.tree in
      record {
        frames = h.frames;
        behind = _;
        alike = h.alike;
        tree = exit-tree text m.from m.to h.frame h.frames h.behind a t.from t.to i j h.tree z;
        led = λ q p. let v = h.kept q in
            led-append k h.frame.before _ (subst (λ (x : List Event). Led k x) (sym v.0) (subst (λ (x : ℕ). Led (100 - x) g) (sym n) p)) w
            (λ e. inl (λ r y. f.2 (sym v.1 ∙ y)));
        blocked = λ q.
            let v = h.kept q in
            let x = h.frame.enter in
            record {
              enter = x;
              inner = h.behind;
              is = ap (λ (y : List Event). y ++ (x ∷ (h.behind ++ (closing x m.from m.to ∷ [])))) v.0;
              role = h.tree.frames.0.role;
              node = v.1;
              start = v.2;
              whole = whole-more (100 - suc (length h.frames)) 100 h.behind (omega arith) h.tree.whole;
            };
        lst = b.0 ∙ h.lst;
        sec = b.1 ∙ h.sec;
      }

  pub container-shuts : (d n : ℕ) (s : State) → Fit text m line → d ≡ length ds → (num ≡ 4 → Termed (100 - length ds) g) → Outside os (suc (length ds))
      → Grows text false (own_frame text m line g ∷ ds) os n s → (close_container m d s).number ≡ 0 → Shut text m line ds g os s (close_container m d s)
  unfolding close_container
  container-shuts d n s t de tm out h =
      let a = pick (eqb num 4) (settle_term d s) s in
      let b = close_inner m.from a in
      let P : State → Type 0 = λ r. Shut text m line ds g os s r in
      passed a (λ x. go (close_inner m.from x) (exit_of m.from m.to)) P (λ za.
      let u = term-settles d de tm s n h (eqb num 4) refl za in
      passed b (exit_of m.from m.to) P (λ zc zd.
      exit-shuts s b t (inner-closes m.from s a (omega (arith, t.from, t.to)) out u zc) zd))
