-- H18: the looks of an accepted text are at most 3 x lines x (deepest nesting + 1). Assumes nothing.
use mathlib.Core.Path.{◌≡◌, refl, sym, ap, ◌∙◌, subst}
use mathlib.Core.Bool.{Bool, true, false}
use mathlib.Core.List.{List, [], ◌∷◌, ◌++◌, map}
use Prim.Native.Nat.{ℕ, zero, suc, ◌+◌, ◌-◌, ◌*◌, ◌/◌, ◌≤◌, min}
use native.Mathlib.Omega.{arith}
use native.Mathlib.Nat.{add-mul, mul-add, mul-le-mul}
use lib.Dec.{eqb, leb}
use lib.ListN.{length, replicate, take, drop, length-take, length-drop}
use lib.Seq.{length-take-le, drop-nil}
use Rattle.classes.specs.Choice.{pick}
use Rattle.std.specs.Prelude.{Ok, Err}
use Rattle.lines.specs.Lines.{Span, Split, lines_of, split_of}
use Rattle.kinds.specs.declared.Kind.{Kind}
use Rattle.measure.specs.Continue.{kind_num}
use Rattle.measure.specs.Measure.{measure_of}
use Rattle.measure.specs.declared.Measured.{Measured}
use Rattle.events.specs.State.{State, with_at, with_looks, with_spare, refuse_of, go}
use Rattle.events.specs.Events.{enter_of}
use Rattle.events.proofs.GoLaws.{go_on}
use Rattle.walk.specs.Fields.{closed_of, is_container}
use Rattle.walk.specs.Leaf.{node}
use Rattle.walk.specs.Tree.{first_line, met_of, marker_start, count_of, admit_of, settle_of, loosen_of, strip_line, strip_lines, open_container, close_container, run_of, skip_opening, inner_lines, container_of, plain_of, body_of, attr_of, ready_of, block_of, container_at, blocks_at}
use Rattle.walk.specs.Document.{start, close_all, document_of}
use Rattle.parse.specs.Parse.{outcome, capped_of, finish, parse_by, parse_of}
use Rattle.walk.specs.declared.Met.{Met}
use Rattle.walk.specs.declared.Limits.{Limits}
use borrow.Author.Tests.{eqb-true}
use Rattle.tree.proofs.MeasuredLaws.{measure-takes}
use Rattle.theorems.specs.Deepest.{deepest_of}
use Rattle.theorems.proofs.Keeps.{accepted, Kept, kept-go, kept-enter, kept-admit, kept-settle, kept-loosen, kept-open-container, kept-close-container, kept-plain, kept-attr, kept-close-all}
use Rattle.theorems.proofs.MeasuredLooks.{measure-looks, blank-measured, Blanks, given-blank}

-- ---- products
-- n of m shares, and the others
pub share : (c n m k : ℕ) → n ≤ m → c * n * k + c * (m - n) * k ≡ c * m * k
share c n m k h = let e : n + (m - n) ≡ m = omega arith in sym (add-mul (c * n) (c * (m - n)) k) ∙ ap (λ (x : ℕ). x * k) (sym (mul-add c n (m - n)) ∙ ap (λ (x : ℕ). c * x) e)

more : (n k k' : ℕ) → k ≤ k' → 3 * n * k ≤ 3 * n * k'
more n k k' h = mul-le-mul {n₁ = 3 * n} {m₁ = k} {n₂ = 3 * n} {m₂ = k'} (omega arith) h

-- ---- a block before its own events
count-looks : (at n : ℕ) (s : State) → ((count_of at n s).number ≡ 0 → (count_of at n s).looks ≡ s.looks + n) × ((count_of at n s).spare ≡ s.spare)
unfolding count_of
count-looks at n s = by-case (leb 18446744073709551616 (s.looks + n))
  where
    by-case : (b : Bool) → ((pick b (refuse_of 7 (with_at at s)) (with_at at (with_looks (s.looks + n) s))).number ≡ 0 →
        (pick b (refuse_of 7 (with_at at s)) (with_at at (with_looks (s.looks + n) s))).looks ≡ s.looks + n) ×
        ((pick b (refuse_of 7 (with_at at s)) (with_at at (with_looks (s.looks + n) s))).spare ≡ s.spare)
    by-case true = ((λ z. absurd (omega arith)), refl)
    by-case false = ((λ z. refl), refl)

pub ready-looks : (lim : Limits) (left : ℕ) (top : Bool) (m : Met) (at n : ℕ) (s : State) → (ready_of lim left top m at n s).number ≡ 0
    → ((ready_of lim left top m at n s).looks ≡ s.looks + n) × ((ready_of lim left top m at n s).spare ≡ s.spare)
unfolding ready_of
ready-looks lim left top m at n s z =
    let a = count_of at n s in
    let c = count-looks at n s in
    let k : Kept a (go a (λ x. go (admit_of lim left top m x) (λ b. go (settle_of m b) (loosen_of m)))) =
    kept-go a a (λ x. go (admit_of lim left top m x) (λ b. go (settle_of m b) (loosen_of m))) (refl, refl) (λ x.
    kept-go x (admit_of lim left top m x) (λ b. go (settle_of m b) (loosen_of m)) (kept-admit lim left top m x) (λ b.
    kept-go b (settle_of m b) (loosen_of m) (kept-settle m b) (kept-loosen m))) in
    (k.0 ∙ c.0 (accepted a _ z), k.1 ∙ c.1)

-- ---- what a container, a block and a run of blocks may cost, with `left` containers left
abbrev FairContainer : ℕ → (Met → ℕ → List Span → State → State) → Type 0
FairContainer left c = (m : Met) (line : ℕ) (ls : List Span) (s : State) → s.spare ≤ left → (c m line ls s).number ≡ 0
    → ((c m line ls s).spare ≤ s.spare) × ((c m line ls s).looks ≤ s.looks + 3 * length ls * (left - (c m line ls s).spare))

abbrev pub Fair : ℕ → (Measured → List Span → State → State) → Type 0
Fair left b = (m : Measured) (ls : List Span) (s : State) → s.spare ≤ left → (b m ls s).number ≡ 0
    → ((b m ls s).spare ≤ s.spare) × ((b m ls s).looks ≤ s.looks + m.looks + 3 * length ls * (left - (b m ls s).spare))

pub skip-length : (text : List ℕ) (m : Met) (ls : List Span) → length (skip_opening text m ls) ≡ length ls
unfolding skip_opening
skip-length text m [] = refl
skip-length text m (l ∷ ls) = refl

pub strip-length : (text : List ℕ) (k : Kind) (opening : ℕ) (ls : List Span) → length (strip_lines text k opening ls) ≡ length ls
unfolding strip_lines
strip-length text k opening [] = refl
strip-length text k opening (l ∷ ls) = ap (λ (n : ℕ). suc n) (map-length (strip_line text k opening) ls)
  where
    map-length : (f : Span → Span) (xs : List Span) → length (map f xs) ≡ length xs
    map-length f [] = refl
    map-length f (x ∷ xs) = ap (λ (n : ℕ). suc n) (map-length f xs)

pub inner-length : (k : Kind) (ls : List Span) → length (inner_lines k ls) ≤ length ls
inner-length k ls = by-case (eqb (kind_num k) 6)
  where
    by-case : (b : Bool) → length (pick b (take (length ls - 1 - pick (closed_of k) 1 0) (drop 1 ls)) ls) ≤ length ls
    by-case true = simp (length-take, length-drop) (omega arith)
    by-case false = omega arith

-- what comes before and after a block's body costs its own looks, and nothing else
carry : (r b a s : State) (left n c : ℕ) → Kept b r → (b.spare ≤ a.spare) × (b.looks ≤ a.looks + 3 * n * (left - b.spare)) → a.looks ≡ s.looks + c → a.spare ≡ s.spare
    → (r.spare ≤ s.spare) × (r.looks ≤ s.looks + c + 3 * n * (left - r.spare))
carry r b a s left n c k p e f = rw (k.0, k.1, ← e, ← f) p

module _ (text : List ℕ) (lim : Limits) (left : ℕ) (top : Bool) (c : Met → ℕ → List Span → State → State) (f : FairContainer left c) where
  body-looks : (m : Met) (line : ℕ) (xs : List Span) (n : ℕ) (a : State) → length xs ≤ n → a.spare ≤ left → (body_of text c top m line xs a).number ≡ 0
      → ((body_of text c top m line xs a).spare ≤ a.spare) × ((body_of text c top m line xs a).looks ≤ a.looks + 3 * n * (left - (body_of text c top m line xs a).spare))
  unfolding body_of
  body-looks m line xs n a l h = by-case (is_container m.kind)
    where
      by-case : (b : Bool) → (pick b (c m line xs a) (plain_of text top m line xs a)).number ≡ 0
          → ((pick b (c m line xs a) (plain_of text top m line xs a)).spare ≤ a.spare) ×
          ((pick b (c m line xs a) (plain_of text top m line xs a)).looks ≤ a.looks + 3 * n * (left - (pick b (c m line xs a) (plain_of text top m line xs a)).spare))
      by-case true z =
          let p = f m line xs a h z in
          let q = mul-le-mul {n₁ = 3 * length xs} {m₁ = left - (c m line xs a).spare} {n₂ = 3 * n} {m₂ = left - (c m line xs a).spare} (omega arith) (omega arith) in
          (p.0, le_on _ _ _ _ p.1 q)
        where
          le_on : (x y u v : ℕ) → x ≤ y + u → u ≤ v → x ≤ y + v
          le_on x y u v i j = omega arith
      by-case false z = let k = kept-plain text top m line xs a in (omega (arith, k.1), omega (arith, k.0))

  pub fair-block : Fair left (block_of text lim c left top)
  unfolding block_of
  fair-block measured ls s h z =
      let m = met_of measured ls in
      let line = (first_line ls).start in
      let xs = inner_lines m.kind (skip_opening text m ls) in
      let a = ready_of lim left top m (marker_start m line) measured.looks s in
      let last : State → State → State = λ x b. with_at s.at (attr_of m (length x.evs) b) in
      let next : State → State = λ x. go (body_of text c top m line xs x) (last x) in
      let za : a.number ≡ 0 = accepted a next z in
      let ea : go a next ≡ next a = go_on a next za in
      let zn : (next a).number ≡ 0 = ap (λ (x : State). x.number) (sym ea) ∙ z in
      let b = body_of text c top m line xs a in
      let zb : b.number ≡ 0 = accepted b (last a) zn in
      let eb : next a ≡ last a b = go_on b (last a) zb in
      let k = ready-looks lim left top m (marker_start m line) measured.looks s za in
      let l : length xs ≤ length ls = omega (arith, inner-length m.kind (skip_opening text m ls), skip-length text m ls) in
      let p = body-looks m line xs (length ls) a l (omega (arith, k.1)) zb in
      rw (ea, eb) (carry (last a b) b a s left (length ls) measured.looks (kept-attr m (length a.evs) b) p k.0 k.1)

-- ---- a run of blocks: where the first g lines are blank, g looks of what it may cost are left over
no-blanks : (text : List ℕ) (k g : ℕ) → Blanks text g (drop k []) → g ≡ 0
no-blanks text k zero b = refl
no-blanks text k (suc g) b = absurd (subst (λ (ls : List Span). Blanks text (suc g) ls) (drop-nil k) b)

sum : (r gv a s l n lines p q u v : ℕ) → lines ≡ n + gv → l ≤ lines + 1 → 1 ≤ n → a ≤ s + l + p → r + gv ≤ a + u → p + 3 * n ≤ q → q + u ≡ v → r + 0 ≤ s + v
sum r gv a s l n lines p q u v h i j k x y z = omega arith

sum-blank : (r g a s l p q u v : ℕ) → l ≤ 2 → a ≤ s + l + p → r + g ≤ a + u → p + 3 ≤ q → q + u ≡ v → r + suc g ≤ s + v
sum-blank r g a s l p q u v h i j k x = omega arith

-- the lines of one block at this depth and below, of n at `k` or more
own : (n left sa sr : ℕ) → sr ≤ sa → 3 * n * (left - sa) + 3 * n ≤ 3 * n * (left - sr + 1)
own n left sa sr h =
    let e : 3 * n * (left - sa + 1) ≡ 3 * n * (left - sa) + 3 * n = mul-add (3 * n) (left - sa) 1 ∙ ap (λ (x : ℕ). 3 * n * (left - sa) + x) (omega arith) in
    rw (← e) (more n (left - sa + 1) (left - sr + 1) (omega arith))

module _ (text : List ℕ) (left : ℕ) (block : Measured → List Span → State → State) (f : Fair left block) where
  -- one block of n lines, whose looks are m's, and what follows it
  module _ (ls : List Span) (s a r : State) (m : Measured) (n : ℕ) (e : m.lines ≡ n + m.given) (i : 1 ≤ n) (j : n ≤ suc (length ls))
      (p : a.looks ≤ s.looks + m.looks + 3 * n * (left - a.spare)) (h : r.spare ≤ a.spare) where
    abbrev deep : ℕ
    deep = left - r.spare + 1

    all : (suc (length ls) - 0 ≡ suc (length ls)) × (length ls - (n - 1) ≡ suc (length ls) - n)
    all = (omega arith, omega arith)

    after_block : m.looks ≤ m.lines + 1 → r.looks + m.given ≤ a.looks + 3 * (length ls - (n - 1)) * deep → r.looks + 0 ≤ s.looks + 3 * (suc (length ls) - 0) * deep
    after_block l q =
        rw all.0 (sum r.looks m.given a.looks s.looks m.looks n m.lines (3 * n * (left - a.spare)) (3 * n * deep) (3 * (suc (length ls) - n) * deep) (3 * suc (length ls) * deep) e l i p (rw (← all.1) q) (own n left a.spare r.spare h) (share 3 n (suc (length ls)) deep j))

    after-blank : (g : ℕ) → n ≡ 1 → m.looks ≤ 2 → r.looks + g ≤ a.looks + 3 * (length ls - (n - 1)) * deep → r.looks + suc g ≤ s.looks + 3 * (suc (length ls) - 0) * deep
    after-blank g o l q =
        let w = own n left a.spare r.spare h in
        rw all.0 (sum-blank r.looks g a.looks s.looks m.looks (3 * n * (left - a.spare)) (3 * n * deep) (3 * (suc (length ls) - n) * deep) (3 * suc (length ls) * deep) l p (rw (← all.1) q) (three (3 * n * (left - a.spare)) (3 * n * deep) n o w) (share 3 n (suc (length ls)) deep j))
      where
        three : (x y k : ℕ) → k ≡ 1 → x + 3 * k ≤ y → x + 3 ≤ y
        three x y k c d = omega arith

  -- the block that begins here, given what a run of the blocks after it may cost
  turn : (l : Span) (ls : List Span) (s a r : State) (g : ℕ) →
      let m = measure_of text (l ∷ ls) in
      let n = m.lines - m.given in
      a.looks ≤ s.looks + m.looks + 3 * n * (left - a.spare) → Blanks text g (l ∷ ls)
      → ((j : ℕ) → Blanks text j (drop (n - 1) ls) → (r.spare ≤ a.spare) × (r.looks + j ≤ a.looks + 3 * (length ls - (n - 1)) * (left - r.spare + 1)))
      → (r.spare ≤ a.spare) × (r.looks + g ≤ s.looks + 3 * (suc (length ls) - 0) * (left - r.spare + 1))
  turn l ls s a r zero p b rest =
      let m = measure_of text (l ∷ ls) in
      let n = m.lines - m.given in
      let t = measure-takes text l ls in
      let c : n ≡ suc (n - 1) = omega (arith, t.some) in
      let q = rest m.given (subst (λ (j : ℕ). Blanks text m.given (drop j (l ∷ ls))) c (given-blank text l ls)) in
      (q.0, after_block ls s a r m n (omega (arith, t.some)) (omega (arith, t.some)) (omega (arith, t.some, t.few)) p q.0 (measure-looks text l ls) q.1)
  turn l ls s a r (suc g) p b rest =
      let m = measure_of text (l ∷ ls) in
      let n = m.lines - m.given in
      let y = blank-measured text l ls b.0 in
      let o : n ≡ 1 = omega (arith, y.0, y.1) in
      let c : 0 ≡ n - 1 = omega arith in
      let q = rest g (subst (λ (j : ℕ). Blanks text g (drop j ls)) c b.1) in
      (q.0, after-blank ls s a r m n (omega (arith, y.1)) (omega arith) (omega arith) p q.0 g o y.2 q.1)

  run-looks : (xs : List Span) (k g : ℕ) (s : State) → Blanks text g (drop k xs) → s.spare ≤ left → (run_of text block xs k s).number ≡ 0
      → ((run_of text block xs k s).spare ≤ s.spare) × ((run_of text block xs k s).looks + g ≤ s.looks + 3 * (length xs - k) * (left - (run_of text block xs k s).spare + 1))
  unfolding run_of
  run-looks [] k g s b h z = (omega arith, omega (arith, no-blanks text k g b))
  run-looks (l ∷ ls) (suc k) g s b h z =
      let e : suc (length ls) - suc k ≡ length ls - k = omega arith in
      rw e (run-looks ls k g s b h z)
  run-looks (l ∷ ls) zero g s b h z =
      let m = measure_of text (l ∷ ls) in
      let n = m.lines - m.given in
      let t = measure-takes text l ls in
      let a = block m (take n (l ∷ ls)) s in
      let rest : State → State = run_of text block ls (n - 1) in
      let za : a.number ≡ 0 = accepted a rest z in
      let ea : go a rest ≡ rest a = go_on a rest za in
      let zr : (rest a).number ≡ 0 = ap (λ (x : State). x.number) (sym ea) ∙ z in
      let p = f m (take n (l ∷ ls)) s h za in
      let w : length (take n (l ∷ ls)) ≡ n = length-take-le n (l ∷ ls) (omega (arith, t.some, t.few)) in
      let p' = subst (λ (x : ℕ). a.looks ≤ s.looks + m.looks + 3 * x * (left - a.spare)) w p.1 in
      let u = turn l ls s a (rest a) g p' b (λ j c. run-looks ls (n - 1) j a c (omega (arith, p.0)) zr) in
      rw ea (omega (arith, p.0, u.0), u.1)

-- ---- containers within containers
pub fair-container : (text : List ℕ) (lim : Limits) (n : ℕ) → FairContainer n (container_at text lim n)
unfolding container_at container_of
fair-container text lim zero m line ls s h z = absurd (omega arith)
fair-container text lim (suc n) m line ls s h z =
    let block = block_of text lim (container_at text lim n) n false in
    let xs = strip_lines text m.kind (m.end - line) ls in
    let v = with_spare (min n s.spare) s in
    let a = open_container text m line v in
    let inner : State → State = λ x. run_of text block xs 0 x in
    let close : State → State → State = λ x. close_container m (length x.opn - 1) in
    let next : State → State = λ x. go (inner x) (close x) in
    let za : a.number ≡ 0 = accepted a next z in
    let ea : go a next ≡ next a = go_on a next za in
    let zn : (next a).number ≡ 0 = ap (λ (x : State). x.number) (sym ea) ∙ z in
    let b = inner a in
    let zb : b.number ≡ 0 = accepted b (close a) zn in
    let eb : next a ≡ close a b = go_on b (close a) zb in
    let ka = kept-open-container text m line v in
    let kb = kept-close-container m (length a.opn - 1) b in
    let q = run-looks text n block (fair-block text lim n false (container_at text lim n) (fair-container text lim n)) xs 0 0 a tt (omega (arith, ka.1)) zb in
    rw (ea, eb) (inside (close a b) b a s n (length xs) (length ls) kb ka.0 ka.1 (strip-length text m.kind (m.end - line) ls) q)
  where
    inside : (r b a s : State) (n x y : ℕ) → Kept b r → a.looks ≡ s.looks → a.spare ≡ min n s.spare → x ≡ y
        → (b.spare ≤ a.spare) × (b.looks + 0 ≤ a.looks + 3 * (x - 0) * (n - b.spare + 1)) → (r.spare ≤ s.spare) × (r.looks ≤ s.looks + 3 * y * (suc n - r.spare))
    inside r b a s n x y k e g c p =
        let u : suc n - b.spare ≡ n - b.spare + 1 = omega (arith, p.0) in
        let v : x - 0 ≡ y = omega arith in
        let w : b.looks + 0 ≤ a.looks + 3 * y * (n - b.spare + 1) = rw (← v) p.1 in
        (omega (arith, k.1, p.0), rw (k.0, k.1, u, ← e) (zero-off _ _ w))
      where
        zero-off : (x y : ℕ) → x + 0 ≤ y → x ≤ y
        zero-off x y h = omega arith

-- ---- the whole text
looks-bound : (text : List ℕ) (lim : Limits) (cap : ℕ) → (document_of text lim (start cap lim.nesting)).number ≡ 0
    → (document_of text lim (start cap lim.nesting)).looks ≤ 3 * length (lines_of text) * (lim.nesting - (document_of text lim (start cap lim.nesting)).spare + 1)
unfolding document_of
looks-bound text lim cap z =
    let a = enter_of (node 1 0 0 0 0 0 0) (start cap lim.nesting) in
    let inner : State → State = blocks_at text lim lim.nesting true (lines_of text) in
    let next : State → State = λ x. go (inner x) (close_all (length text)) in
    let za : a.number ≡ 0 = accepted a next z in
    let ea : go a next ≡ next a = go_on a next za in
    let zn : (next a).number ≡ 0 = ap (λ (x : State). x.number) (sym ea) ∙ z in
    let b = inner a in
    let zb : b.number ≡ 0 = accepted b (close_all (length text)) zn in
    let eb : next a ≡ close_all (length text) b = go_on b (close_all (length text)) zb in
    let ka = kept-enter (node 1 0 0 0 0 0 0) (start cap lim.nesting) in
    let kb = kept-close-all (length text) b in
    let q = run-looks text lim.nesting (block_of text lim (container_at text lim lim.nesting) lim.nesting true) (fair-block text lim lim.nesting true (container_at text lim lim.nesting) (fair-container text lim lim.nesting)) (lines_of text) 0 0 a tt (omega (arith, ka.1)) zb in
    rw (ea, eb) (outside (close_all (length text) b) b a lim.nesting (length (lines_of text)) kb ka.0 q.1)
  where
    outside : (r b a : State) (n x : ℕ) → Kept b r → a.looks ≡ 0 → b.looks + 0 ≤ a.looks + 3 * (x - 0) * (n - b.spare + 1) → r.looks ≤ 3 * x * (n - r.spare + 1)
    outside r b a n x k e p =
        let v : x - 0 ≡ x = omega arith in
        let w : b.looks + 0 ≤ a.looks + 3 * x * (n - b.spare + 1) = rw (← v) p in
        rw (k.0, k.1) (none _ _ _ e w)
      where
        none : (x y z : ℕ) → y ≡ 0 → x + 0 ≤ y + z → x ≤ z
        none x y z e h = omega arith

-- and so of the number that parsing reports, whatever is lent
module _ (lim : Limits) (text lines events : List ℕ) where
  abbrev walked : State
  walked = document_of text lim (start (length events) lim.nesting)

  abbrev bound : ℕ
  bound = 3 * length (lines_of text) * (lim.nesting - walked.spare + 1)

  finished : (b : Bool) → eqb walked.number 0 ≡ b →
      (pick b (outcome 0 (length text) (length walked.evs / 8) walked.looks (replicate (length lines) 0) (walked.evs ++ replicate (length events - length walked.evs) 0))
      (outcome walked.number walked.at 0 0 (replicate (length lines) 0) (replicate (length events) 0))).answer.looks ≤ bound
  finished true e = looks-bound text lim (length events) (eqb-true walked.number 0 e)
  finished false e = omega arith

  split-looks : (x : Split) → (parse_by lim text lines events x).answer.looks ≤ bound
  unfolding finish
  split-looks (Err r) = omega arith
  split-looks (Ok n) = finished (eqb walked.number 0) refl

pub parse-looks : (limit : ℕ) (lim : Limits) (text lines events : List ℕ)
    → (parse_of limit lim text lines events).answer.looks ≤ 3 * length (lines_of text) * (deepest_of text (capped_of lim) (length events) + 1)
unfolding parse_of deepest_of
parse-looks limit lim text lines events = split-looks (capped_of lim) text lines events (split_of text limit (length lines))
