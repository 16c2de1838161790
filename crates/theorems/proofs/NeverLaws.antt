-- Refusal 7 never comes (RULES R12): no panic! and no unreachable! of the tree code is met, in any text. Assumes nothing.
use mathlib.Core.Path.{◌≡◌, refl, sym, ap, subst, ◌∙◌}
use mathlib.Core.Logic.{inl, inr}
use mathlib.Core.Bool.{Bool, true, false}
use mathlib.Core.List.{List, [], ◌∷◌, ◌++◌}
use Prim.Native.Nat.{ℕ, zero, suc, ◌+◌, ◌-◌, ◌*◌, ◌/◌, ◌≤◌, ◌<◌, min}
use native.Mathlib.Omega.{arith}
use native.Mathlib.Nat.{mul-add, mul-le-mul}
use lib.Dec.{eqb}
use lib.ListN.{length, replicate, take}
use lib.Seq.{length-take-le}
use borrow.Author.Tests.{ne_eqb}
use Rattle.lines.specs.Lines.{Span, span, lines_from, lines_of}
use Rattle.measure.specs.Continue.{kind_num, level_of}
use Rattle.measure.specs.Measure.{measure_of}
use Rattle.measure.specs.declared.Measured.{Measured}
use Rattle.events.specs.State.{State, with_at, with_spare, go}
use Rattle.events.specs.Events.{enter_of, exit_of}
use Rattle.events.specs.declared.Event.{Event}
use Rattle.lists.specs.Lists.{close_list_of}
use Rattle.lists.specs.declared.OpenList.{OpenList}
use Rattle.events.specs.Names.{largest}
use Rattle.walk.specs.Fields.{is_container}
use Rattle.walk.specs.Leaf.{kept_of}
use Rattle.walk.specs.Tree.{met_of, marker_start, strip_lines, open_container, run_of, skip_opening, inner_lines, plain_of, body_of, attr_of, ready_of, block_of, container_at, blocks_at}
use Rattle.walk.specs.Document.{start, close_lists, close_sections, close_all, document_of}
use Rattle.parse.specs.Parse.{Outcome, outcome, capped_of, finish, parse_of}
use Rattle.walk.specs.declared.Met.{Met}
use Rattle.walk.specs.declared.Limits.{Limits}
use Rattle.tree.proofs.MeasuredLaws.{measure-takes}
use Rattle.theorems.proofs.Keeps.{kept-open-container, kept-enter}
use Rattle.theorems.proofs.MeasuredLooks.{measure-looks}
use Rattle.theorems.proofs.Looks.{share, Fair, skip-length, strip-length, inner-length, ready-looks, fair-block, fair-container}
use Rattle.theorems.proofs.LevelSteps.{passed, chosen}
use Rattle.theorems.proofs.LevelLaws.{no_item}
use Rattle.theorems.proofs.Proper.{of-pick}
use Rattle.theorems.proofs.Nests.{Frame}
use Rattle.theorems.proofs.Trees.{Tree, Inside, Fit, lists_words}
use Rattle.theorems.proofs.TreeLevel.{Bare, Grows, Walked}
use Rattle.theorems.proofs.Spans.{inside-lines, inside_take, inside-strip, inside-skip, inside-inner, met-fit}
use Rattle.theorems.proofs.TreeSteps.{tree-beside, exit-tree}
use Rattle.theorems.proofs.TreeReady.{ready-tree}
use Rattle.theorems.proofs.TreeLaws.{not_top, Calm, run-walks, calm-block, inner-walks, container-walks, document, start-holds, begin-bare, close-lists, close-sections}
use Rattle.theorems.proofs.Sound.{of-parse}
use Rattle.theorems.proofs.Never.{Sure, sure-zero, sure-go, enter-sure, exit-sure}
use Rattle.theorems.proofs.NeverLists.{close-list-sure}
use Rattle.theorems.proofs.NeverTerms.{Filled}
use Rattle.theorems.proofs.NeverContainer.{container-sure, container-fills}
use Rattle.theorems.proofs.NeverPlain.{ready-sure, ready-kept, plain-sure, plain-fills}

-- ---- looks: so many for each line and each level, which is less than 64 bits hold
abbrev each : ℕ
each = largest + 3

level : (n left : ℕ) → each * n * (left + 1) ≡ each * n * left + each * n
level n left = mul-add (each * n) left 1 ∙ ap (λ (x : ℕ). each * n * left + x) (omega arith)

-- a block of n lines of m that looks at l of them
before-block : (x y l n m left : ℕ) → l ≤ each → 1 ≤ n → n ≤ m → x + each * m * (left + 1) ≤ y → x + l + each * n * left ≤ y
before-block x y l n m left a b c h =
    let u = level m left in
    let v = mul-le-mul {n₁ = each * n} {m₁ = left} {n₂ = each * m} {m₂ = left} (omega arith) (omega arith) in
    sum x y l m (each * n * left) (each * m * left) (each * m * (left + 1)) a (omega arith) v u h
  where
    sum : (x y l m p q r : ℕ) → l ≤ each → 1 ≤ m → p ≤ q → r ≡ q + each * m → x + r ≤ y → x + l + p ≤ y
    sum x y l m p q r a b c d e = omega arith

after_block : (x y z l n m left spare : ℕ) → l ≤ each → 1 ≤ n → n ≤ m → z ≤ x + l + 3 * n * (left - spare) → x + each * m * (left + 1) ≤ y → z + each * (m - n) * (left + 1) ≤ y
after_block x y z l n m left spare a b c d h =
    let v = mul-le-mul {n₁ = 3 * n} {m₁ = left - spare} {n₂ = each * n} {m₂ = left} (omega arith) (omega arith) in
    let u = share each n m (left + 1) c in
    sum x y z l n (3 * n * (left - spare)) (each * n * left) (each * n * (left + 1)) (each * (m - n) * (left + 1)) (each * m * (left + 1)) a b v (level n left) u d h
  where
    sum : (x y z l n p q r u v : ℕ) → l ≤ each → 1 ≤ n → p ≤ q → r ≡ q + each * n → r + u ≡ v → z ≤ x + l + p → x + v ≤ y → z + u ≤ y
    sum x y z l n p q r u v a b c d e f g = omega arith

abbrev most : ℕ
most = 18446744073709551615

-- what is left for so many lines at a level
record Spared (left lines : ℕ) (s : State) : Type 0 where
  spare : s.spare ≤ left
  few : lines ≤ largest + 1
  looks : s.looks + each * lines * (left + 1) ≤ most

-- ---- what containers, blocks and runs of them do
abbrev SureContainer : List ℕ → ℕ → (Met → ℕ → List Span → State → State) → Type 0
SureContainer text left c = (top : Bool) (own : List Frame) (os : List OpenList) (m : Met) (line : ℕ) (ls : List Span) (a : State)
    → length os + left ≤ 32 → Fit text m line → is_container m.kind ≡ true → Inside text ls → Grows text top own os left a → ((kind_num m.kind ≡ 9 → ⊥) → Bare text top own os left a)
    → a.number ≡ 0 → a.spare ≤ left → length ls ≤ largest + 1 → a.looks + each * length ls * left ≤ most → (kind_num m.kind ≡ 9 → 1 ≤ length ls) → Sure (c m line ls a)

abbrev FullContainer : List ℕ → ℕ → (Met → ℕ → List Span → State → State) → Type 0
FullContainer text left c = (own : List Frame) (os : List OpenList) (m : Met) (line : ℕ) (ls : List Span) (a : State)
    → Fit text m line → is_container m.kind ≡ true → Inside text ls → Grows text false own os left a → ((kind_num m.kind ≡ 9 → ⊥) → Bare text false own os left a)
    → (c m line ls a).number ≡ 0 → Filled own (c m line ls a)

abbrev SureBlock : List ℕ → Bool → List Frame → List OpenList → ℕ → (Measured → List Span → State → State) → Type 0
SureBlock text top own os left block = (l : Span) (ls : List Span) (s : State) → Inside text (l ∷ ls) → Grows text top own os left s → s.number ≡ 0 → Spared left (suc (length ls)) s →
    let m = measure_of text (l ∷ ls) in
    Sure (block m (take (m.lines - m.given) (l ∷ ls)) s)

abbrev FullBlock : List ℕ → List Frame → List OpenList → ℕ → (Measured → List Span → State → State) → Type 0
FullBlock text own os left block = (l : Span) (ls : List Span) (s : State) → Inside text (l ∷ ls) → Grows text false own os left s →
    let m = measure_of text (l ∷ ls) in
    let b = block m (take (m.lines - m.given) (l ∷ ls)) s in
    b.number ≡ 0 → Filled own b

-- ---- a run of blocks
module _ (text : List ℕ) (top : Bool) (own : List Frame) (os : List OpenList) (left : ℕ) (block : Measured → List Span → State → State) (walks : Calm text top own os left block) where
  run-sure : Fair left block → SureBlock text top own os left block → (ls : List Span) (k : ℕ) (s : State) → Inside text ls → Grows text top own os left s → s.number ≡ 0
      → Spared left (length ls - k) s → Sure (run_of text block ls k s)
  unfolding run_of
  run-sure f g [] k s i h z p = sure-zero s z
  run-sure f g (l ∷ ls) (suc k) s i h z p =
      let e : suc (length ls) - suc k ≡ length ls - k = omega arith in
      run-sure f g ls k s i.2 h z (subst (λ (n : ℕ). Spared left n s) e p)
  run-sure f g (l ∷ ls) zero s i h z p =
      let m = measure_of text (l ∷ ls) in
      let n = m.lines - m.given in
      let b = block m (take n (l ∷ ls)) s in
      let t = measure-takes text l ls in
      let o : suc (length ls) - 0 ≡ suc (length ls) = omega arith in
      let q = subst (λ (n : ℕ). Spared left n s) o p in
      sure-go b (run_of text block ls (n - 1)) (g l ls s i h z q) (λ zb.
      let u = f m (take n (l ∷ ls)) s q.spare zb in
      let w : length (take n (l ∷ ls)) ≡ n = length-take-le n (l ∷ ls) (omega (arith, t.some, t.few)) in
      let v = subst (λ (x : ℕ). b.looks ≤ s.looks + m.looks + 3 * x * (left - b.spare)) w u.1 in
      let e : suc (length ls) - n ≡ length ls - (n - 1) = omega (arith, t.some) in
      let r : Spared left (suc (length ls) - n) b = record {
        spare = omega (arith, u.0, q.spare);
        few = omega (arith, q.few);
        looks = after_block s.looks most b.looks m.looks n (suc (length ls)) left b.spare (omega (arith, measure-looks text l ls, t.few, q.few)) (omega (arith, t.some))
            (omega (arith, t.some, t.few)) v q.looks;
      } in
      run-sure f g ls (n - 1) b i.2 (walks l ls s i h zb).grows zb (subst (λ (n : ℕ). Spared left n b) e r))

-- a level that has an event keeps one
module _ (text : List ℕ) (own : List Frame) (os : List OpenList) (left : ℕ) (block : Measured → List Span → State → State) (walks : Calm text false own os left block)
    (full : FullBlock text own os left block) where
  run-keeps : (ls : List Span) (k : ℕ) (s : State) → Inside text ls → Grows text false own os left s → Filled own s → (run_of text block ls k s).number ≡ 0 → Filled own (run_of text block ls k s)
  unfolding run_of
  run-keeps [] k s i h w = λ z. w
  run-keeps (l ∷ ls) (suc k) s i h w = run-keeps ls k s i.2 h w
  run-keeps (l ∷ ls) zero s i h w =
      let m = measure_of text (l ∷ ls) in
      let n = m.lines - m.given in
      let b = block m (take n (l ∷ ls)) s in
      passed b (run_of text block ls (n - 1)) (Filled own) (λ zb. run-keeps ls (n - 1) b i.2 (walks l ls s i h zb).grows (full l ls s i h zb))

  run-fills : (ls : List Span) (s : State) → 1 ≤ length ls → Inside text ls → Grows text false own os left s → (run_of text block ls 0 s).number ≡ 0 → Filled own (run_of text block ls 0 s)
  unfolding run_of
  run-fills [] s o i h = absurd (omega arith)
  run-fills (l ∷ ls) s o i h =
      let m = measure_of text (l ∷ ls) in
      let n = m.lines - m.given in
      let b = block m (take n (l ∷ ls)) s in
      passed b (run_of text block ls (n - 1)) (Filled own) (λ zb. run-keeps ls (n - 1) b i.2 (walks l ls s i h zb).grows (full l ls s i h zb))

-- ---- a block
-- what comes behind its events
last-sure : (m : Met) (w at : ℕ) (b : State) → Sure b → Sure (with_at at (attr_of m w b))
last-sure m w at b p = of-pick (λ (x : State). Sure (with_at at x)) (eqb (kind_num m.kind) 2) _ _ (λ e. p) (λ e. p)

last-fills : (own : List Frame) (m : Met) (w at : ℕ) (b : State) → Filled own b → Filled own (with_at at (attr_of m w b))
last-fills own m w at b p = of-pick (λ (x : State). Filled own (with_at at x)) (eqb (kind_num m.kind) 2) _ _ (λ e. p) (λ e. p)

module _ (text : List ℕ) (lim : Limits) (secs : lim.sections ≤ 32) where
  module _ (c : Met → ℕ → List Span → State → State) (left : ℕ) (top : Bool) (own : List Frame) (os : List OpenList) where
    -- the lines inside it
    abbrev lines_in : Met → List Span → List Span
    lines_in m ls = inner_lines m.kind (skip_opening text m ls)

    lines-few : (m : Met) (ls : List Span) → length (lines_in m ls) ≤ length ls
    lines-few m ls = omega (arith, inner-length m.kind (skip_opening text m ls), skip-length text m ls)

    item-lines : (m : Met) (l : Span) (ls : List Span) → kind_num m.kind ≡ 9 → 1 ≤ length (lines_in m (l ∷ ls))
    item-lines m l ls e = rw (ne_eqb (kind_num m.kind) 6 (λ k. omega (arith, e, k))) (omega (arith, skip-length text m (l ∷ ls)))

    block-sure : SureContainer text left c → length os + left ≤ 32 → (measured : Measured) (l : Span) (ls : List Span) (s : State) → Fit text (met_of measured (l ∷ ls)) l.start
        → (met_of measured (l ∷ ls)).end ≤ l.end → Inside text (l ∷ ls) → Grows text top own os left s → s.number ≡ 0 → s.spare ≤ left → suc (length ls) ≤ largest + 1
        → s.looks + measured.looks + each * suc (length ls) * left ≤ most → Sure (block_of text lim c left top measured (l ∷ ls) s)
    unfolding block_of body_of
    block-sure f many measured l ls s fit e i h z sp few looks =
        let m = met_of measured (l ∷ ls) in
        let line = l.start in
        let xs = lines_in m (l ∷ ls) in
        let at = marker_start m line in
        let a = ready_of lim left top m at measured.looks s in
        let last : State → State → State = λ a b. with_at s.at (attr_of m (length a.evs) b) in
        let b = body_of text c top m line xs a in
        let j = inside-inner text m.kind (skip_opening text m (l ∷ ls)) (inside-skip text m l ls e i) in
        let n = lines-few m (l ∷ ls) in
        sure-go a (λ a. go (body_of text c top m line xs a) (last a))
        (ready-sure text lim left top own os m line at measured.looks s fit h (no_more (s.looks + measured.looks) _ looks) (sure-zero s z)) (λ za.
        let r = ready-tree text lim left top own os m line at measured.looks s fit h za in
        let u = ready-looks lim left top m at measured.looks s za in
        let v = mul-le-mul {n₁ = each * length xs} {m₁ = left} {n₂ = each * suc (length ls)} {m₂ = left} (omega (arith, n)) (omega arith) in
        let w : a.looks + each * length xs * left ≤ most = less a.looks (s.looks + measured.looks) _ _ u.0 v looks in
        let body : Sure b = of-pick Sure (is_container m.kind) (c m line xs a) (plain_of text top m line xs a)
        (λ k. f top own os m line xs a many fit k j r.grows r.bare za (omega (arith, u.1, sp)) (omega (arith, n, few)) w (item-lines m l ls))
        (λ k. plain-sure text top own os left m line xs a fit j (r.bare (no_item m.kind k))
        (λ t five.
        let q = ready-kept lim left m at measured.looks s five (subst (λ (x : Bool). (ready_of lim left x m at measured.looks s).number ≡ 0) t za) in
        let g = subst (λ (x : List ℕ). kept_of x (level_of m.kind) (length x) < lim.sections) (sym r.sec) q in
        omega (arith, g, secs)) (sure-zero a za)) in
        sure-go b (last a) body (λ zb. last-sure m (length a.evs) s.at b body))
      where
        no_more : (x y : ℕ) → x + y ≤ most → x ≤ most
        no_more x y h = omega arith

        less : (x y u v : ℕ) → x ≡ y → u ≤ v → y + v ≤ most → x + u ≤ most
        less x y u v e h k = omega arith

    sure-block : SureContainer text left c → length os + left ≤ 32 → SureBlock text top own os left (block_of text lim c left top)
    sure-block f many l ls s i h z p =
        let m = measure_of text (l ∷ ls) in
        let k = met-fit text l ls i in
        let t = measure-takes text l ls in
        taken m (m.lines - m.given) k.2 k.0 k.1 (omega (arith, t.some, t.few)) (omega (arith, measure-looks text l ls, t.few, p.few))
      where
        taken : (measured : Measured) (n : ℕ) → 1 ≤ n → Fit text (met_of measured (take n (l ∷ ls))) l.start → (met_of measured (take n (l ∷ ls))).end ≤ l.end → n ≤ suc (length ls)
            → measured.looks ≤ each → Sure (block_of text lim c left top measured (take n (l ∷ ls)) s)
        taken measured zero k fit e b w = absurd (omega arith)
        taken measured (suc n) k fit e b w =
            let q = length-take-le n ls (omega arith) in
            let o = before-block s.looks most measured.looks (suc n) (suc (length ls)) left w k b p.looks in
            block-sure f many measured l (take n ls) s fit e (i.0, i.1, inside_take text n ls i.2) h z p.spare (omega (arith, q, b, p.few))
            (subst (λ (x : ℕ). s.looks + measured.looks + each * suc x * left ≤ most) (sym q) o)

  -- ---- an event of a block that is in a container
  module _ (c : Met → ℕ → List Span → State → State) (left : ℕ) (own : List Frame) (os : List OpenList) (f : FullContainer text left c) where
    block-fills : (measured : Measured) (l : Span) (ls : List Span) (s : State) → Fit text (met_of measured (l ∷ ls)) l.start → (met_of measured (l ∷ ls)).end ≤ l.end → Inside text (l ∷ ls)
        → Grows text false own os left s → (block_of text lim c left false measured (l ∷ ls) s).number ≡ 0 → Filled own (block_of text lim c left false measured (l ∷ ls) s)
    unfolding block_of body_of
    block-fills measured l ls s fit e i h =
        let m = met_of measured (l ∷ ls) in
        let line = l.start in
        let xs = inner_lines m.kind (skip_opening text m (l ∷ ls)) in
        let at = marker_start m line in
        let a = ready_of lim left false m at measured.looks s in
        let last : State → State → State = λ a b. with_at s.at (attr_of m (length a.evs) b) in
        let b = body_of text c false m line xs a in
        let j = inside-inner text m.kind (skip_opening text m (l ∷ ls)) (inside-skip text m l ls e i) in
        passed a (λ a. go (body_of text c false m line xs a) (last a)) (Filled own) (λ za.
        let r = ready-tree text lim left false own os m line at measured.looks s fit h za in
        passed b (last a) (Filled own) (λ zb z. last-fills own m (length a.evs) s.at b
        (chosen (is_container m.kind) (c m line xs a) (plain_of text false m line xs a) (Filled own)
        (λ k. f own os m line xs a fit k j r.grows r.bare)
        (λ k. plain-fills text false own os left m line xs a fit j (r.bare (no_item m.kind k)) r.level refl) zb)))

    full_block : FullBlock text own os left (block_of text lim c left false)
    full_block l ls s i h =
        let m = measure_of text (l ∷ ls) in
        let k = met-fit text l ls i in
        taken m (m.lines - m.given) k.2 k.0 k.1
      where
        taken : (measured : Measured) (n : ℕ) → 1 ≤ n → Fit text (met_of measured (take n (l ∷ ls))) l.start → (met_of measured (take n (l ∷ ls))).end ≤ l.end
            → (block_of text lim c left false measured (take n (l ∷ ls)) s).number ≡ 0 → Filled own (block_of text lim c left false measured (take n (l ∷ ls)) s)
        taken measured zero k fit e = absurd (omega arith)
        taken measured (suc n) k fit e = block-fills measured l (take n ls) s fit e (i.0, i.1, inside_take text n ls i.2) h

  -- ---- containers within containers
  module _ (n : ℕ) (m : Met) (line : ℕ) (ls : List Span) (i : Inside text ls) where
    abbrev block : Measured → List Span → State → State
    block = block_of text lim (container_at text lim n) n false

    abbrev stripped : List Span
    stripped = strip_lines text m.kind (m.end - line) ls

    calm : (own : List Frame) (os : List OpenList) → Calm text false own os n block
    calm own os = calm-block text lim (container_at text lim n) n (container-walks text lim n) false own os not_top not_top

    strip-inside : Inside text stripped
    strip-inside = inside-strip text m.kind (m.end - line) ls i

    inner : (own : List Frame) (os : List OpenList) (x : State) → Bare text false own os n x → (run_of text block stripped 0 x).number ≡ 0
        → Walked text false own os n x (run_of text block stripped 0 x)
    inner = inner-walks text lim n (container-walks text lim n) m.kind (m.end - line) ls i

  full-container : (n : ℕ) → FullContainer text n (container_at text lim n)
  unfolding container_at
  full-container zero own os m line ls a fit e i h b = λ z. absurd (omega (arith, z))
  full-container (suc n) own os m line ls a fit e i h b =
      container-fills text (λ xs. run_of text (block n m line ls i) xs 0) n m line ls fit (inner n m line ls i) false own os a h b refl

  sure-container : (n : ℕ) → SureContainer text n (container_at text lim n)
  unfolding container_at
  sure-container zero top own os m line ls a many fit e i h b z sp few looks nine = λ q. omega (arith, q)
  sure-container (suc n) top own os m line ls a many fit e i h b z sp few looks nine =
      let v = with_spare (min n a.spare) a in
      let x = open_container text m line v in
      let xs = stripped n m line ls i in
      let k = kept-open-container text m line v in
      let w = strip-length text m.kind (m.end - line) ls in
      let u = within n (length xs - 0) (length ls) x.looks a.looks (omega (arith, w)) k.0 looks in
      let r : Spared n (length xs - 0) x = record { spare = omega (arith, k.1); few = omega (arith, few, w); looks = u } in
      container-sure text (λ xs. run_of text (block n m line ls i) xs 0) n m line ls fit (inner n m line ls i) top own os a h b many (λ own' os' many' g zx. (
        run-sure text false own' os' n (block n m line ls i) (calm n m line ls i own' os') (fair-block text lim n false (container_at text lim n) (fair-container text lim n))
            (sure-block (container_at text lim n) n false own' os' (sure-container n) many') xs 0 x (strip-inside n m line ls i) (inl g) zx r,
        λ q. run-fills text own' os' n (block n m line ls i) (calm n m line ls i own' os') (full_block (container_at text lim n) n own' os' (full-container n)) xs x (omega (arith, w, nine q))
            (strip-inside n m line ls i) (inl g),
      )) (sure-zero a z)
    where
      within : (n x y p q : ℕ) → x ≡ y → p ≡ q → q + each * y * suc n ≤ most → p + each * x * (n + 1) ≤ most
      within n x y p q e f h = let u : n + 1 ≡ suc n = omega arith in rw (e, f, u) h

-- ---- the final closings
module _ (text : List ℕ) where
  abbrev end : ℕ
  end = length text

  close-lists-sure : (left : ℕ) (own : List Frame) (s : State) → Grows text true own [] left s → Sure s → Sure (close_lists end (length s.lst / 5) (with_at end s))
  unfolding close_lists lists_words
  close-lists-sure left own s (inl b) p =
      let n : length s.lst / 5 ≡ 0 = omega (arith, ap (λ (l : List ℕ). length l) b.lst) in
      subst (λ (k : ℕ). Sure (close_lists end k (with_at end s))) (sym n) p
  close-lists-sure left own s (inr b) p =
      let a = with_at end s in
      let n : length s.lst / 5 ≡ 1 = omega (arith, ap (λ (l : List ℕ). length l) b.lst) in
      let t = tree-beside text (b.frame ∷ b.frames) b.behind s a refl refl b.tree in
      let q = close-list-sure text end b.frame b.frames b.behind b.list [] a t b.this b.depth b.lst p in
      subst (λ (k : ℕ). Sure (close_lists end k a)) (sym n) (sure-go (close_list_of end a) (close_lists end 0) q (λ z. q))

  close-sections-sure : (n : ℕ) (fs : List Frame) (g : List Event) (s : State) → length fs ≡ suc n → n ≤ 32 → Tree text fs g s → Sure s → Sure (close_sections end n s)
  unfolding close_sections
  close-sections-sure n [] g s c h t p = absurd (omega arith)
  close-sections-sure zero (f ∷ fs) g s c h t p = p
  close-sections-sure (suc n) (f ∷ fs) g s c h t p =
      let q = exit-sure end end f fs g s t.holds t.frames.0.role p in
      sure-go (exit_of end end s) (close_sections end n) q (λ z.
      close-sections-sure n fs _ (exit_of end end s) (omega arith) (omega arith) (exit-tree text end end f fs g s (omega arith) (omega arith) (omega arith) (omega arith) t z) q)

  close-all-sure : (left : ℕ) (own : List Frame) (s : State) → Grows text true own [] left s → Sure s → Sure (close_all end s)
  unfolding close_all
  close-all-sure left own s h p =
      let a = close_lists end (length s.lst / 5) (with_at end s) in
      let b = close_sections end (length a.sec) a in
      let pa = close-lists-sure left own s h p in
      sure-go a (λ x. go (close_sections end (length x.sec) x) (exit_of end end)) pa (λ za.
      let u = close-lists text left own s h za in
      let pb = close-sections-sure (length a.sec) u.frames u.behind a u.count u.few u.tree pa in
      sure-go b (exit_of end end) pb (λ zb.
      let w = close-sections text (length a.sec) u.frames u.behind a u.count u.few u.tree zb in
      exit-sure end end w.frame [] w.behind b w.tree.holds w.tree.frames.0.role pb))

-- ---- the whole text
count-lines : (s p : ℕ) (text : List ℕ) → length (lines_from s p text) ≤ length text + 1
unfolding lines_from
count-lines s p [] = of-pick (λ (l : List Span). length l ≤ 1) (eqb s p) [] (span s p ∷ []) (λ e. omega arith) (λ e. omega arith)
count-lines s p (b ∷ bs) =
    of-pick (λ (l : List Span). length l ≤ suc (length bs) + 1) (eqb b 10) (span s (p + 1) ∷ lines_from (p + 1) (p + 1) bs) (lines_from s (p + 1) bs)
    (λ e. omega (arith, count-lines (p + 1) (p + 1) bs)) (λ e. omega (arith, count-lines s (p + 1) bs))

text-lines : (text : List ℕ) → length (lines_of text) ≤ length text + 1
unfolding lines_of
text-lines text = count-lines 0 0 text

-- a coarse bound, by the deepest nesting that there can be
within-most : (looks lines d : ℕ) → looks ≡ 0 → lines ≤ largest + 1 → d ≤ 32 → looks + each * lines * (d + 1) ≤ most
within-most looks lines d z h k =
    let p : each * lines * (d + 1) ≤ each * lines * 33 = mul-le-mul {n₁ = each * lines} {m₁ = d + 1} {n₂ = each * lines} {m₂ = 33} (omega arith) (omega (arith, k)) in
    omega (arith, p, z, h)

document-sure : (text : List ℕ) (lim : Limits) (cap : ℕ) → length text ≤ largest → lim.nesting ≤ 32 → lim.sections ≤ 32 → Sure (document_of text lim (start cap lim.nesting))
unfolding document_of
document-sure text lim cap len deep secs =
    let d = lim.nesting in
    let s = start cap d in
    let a = enter_of document s in
    let block = block_of text lim (container_at text lim d) d true in
    let b = run_of text block (lines_of text) 0 a in
    let next : State → State = λ x. go (blocks_at text lim d true (lines_of text) x) (close_all (length text)) in
    let c = calm-block text lim (container_at text lim d) d (container-walks text lim d) true [] [] (λ t. refl) (λ t. deep) in
    let k = kept-enter document s in
    let n = text-lines text in
    let r : Spared d (length (lines_of text) - 0) a = record { spare = omega (arith, k.1); few = omega (arith, n, len); looks = within-most a.looks (length (lines_of text) - 0) d k.0 (omega (arith, n, len)) deep } in
    sure-go a next (enter-sure document [] [] s (start-holds cap d) (omega arith) (λ e. omega (arith, e))) (λ za.
    let h : Grows text true [] [] d a = inl (begin-bare text cap d deep za) in
    let f = fair-block text lim d true (container_at text lim d) (fair-container text lim d) in
    let g = sure-block text lim secs (container_at text lim d) d true [] [] (sure-container text lim secs d) (omega (arith, deep)) in
    let p = run-sure text true [] [] d block c f g (lines_of text) 0 a (inside-lines text) h za r in
    sure-go b (close_all (length text)) p (λ zb. close-all-sure text d [] b (run-walks text true [] [] d block c (lines_of text) 0 a (inside-lines text) h zb).grows p))

-- ---- what parsing answers
abbrev Answers : Outcome → Type 0
Answers a = a.answer.number ≡ 7 → ⊥

finished-sure : (lim : Limits) (text lines events : List ℕ) → length text ≤ largest
    → Answers (finish (length text) (length lines) (length events) (document_of text (capped_of lim) (start (length events) (capped_of lim).nesting)))
unfolding finish
finished-sure lim text lines events len =
    let s = document_of text (capped_of lim) (start (length events) (capped_of lim).nesting) in
    of-pick Answers (eqb s.number 0)
    (outcome 0 (length text) (length s.evs / 8) s.looks (replicate (length lines) 0) (s.evs ++ replicate (length events - length s.evs) 0))
    (outcome s.number s.at 0 0 (replicate (length lines) 0) (replicate (length events) 0))
    (λ e z. omega (arith, z)) (λ e. document-sure text (capped_of lim) (length events) len (omega arith) (omega arith))

-- for any limits of nesting and sections
pub never-seven : (lim : Limits) (text lines events : List ℕ) → (parse_of largest lim text lines events).answer.number ≡ 7 → ⊥
never-seven lim text lines events = of-parse Answers lim text lines events (λ z. omega (arith, z)) (λ z. omega (arith, z)) (finished-sure lim text lines events)
