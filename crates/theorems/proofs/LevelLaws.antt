-- What a container, a block and a run of blocks leave open at their level. Assumes nothing.
use mathlib.Core.Path.{◌≡◌, refl, sym, ap, ◌∙◌}
use mathlib.Core.Logic.{inl}
use mathlib.Core.Bool.{Bool, true, false, true≢false}
use mathlib.Core.List.{List, [], ◌∷◌, ◌++◌}
use Prim.Native.Nat.{ℕ, zero, suc, ◌-◌, min}
use native.Mathlib.Omega.{arith}
use lib.Dec.{eqb}
use lib.ListN.{length, take, length-append}
use borrow.Author.Tests.{eqb-true}
use Rattle.lines.specs.Lines.{Span}
use Rattle.kinds.specs.declared.Kind.{Kind}
use Rattle.kinds.specs.declared.Kind.TheVariants.{Blankline, Attributes, ThematicBreak, Paragraph, Heading, Fenced, Definition, Blockquote, ListItem, Table}
use Rattle.measure.specs.Continue.{kind_num}
use Rattle.measure.specs.Measure.{measure_of}
use Rattle.measure.specs.declared.Measured.{Measured}
use Rattle.events.specs.State.{State, with_at, with_spare, go}
use Rattle.walk.specs.Fields.{is_container}
use Rattle.walk.specs.Tree.{first_line, met_of, marker_start, open_container, close_container, strip_lines, run_of, skip_opening, inner_lines, container_of, plain_of, body_of, attr_of, ready_of, block_of, container_at}
use Rattle.walk.specs.declared.Met.{Met}
use Rattle.walk.specs.declared.Limits.{Limits}
use Rattle.theorems.specs.Lists.{goes_on}
use Rattle.theorems.proofs.Level.{Around, None, Level, Between}
use Rattle.theorems.proofs.LevelSteps.{passed, chosen, Same, Entered, same-attr}
use Rattle.theorems.proofs.LevelLists.{none-same, level-same, not-item, ready-step, plain_step}
use Rattle.theorems.proofs.LevelContainers.{Done, done-same, done-level, listed, list-step, open_step, inside-around, entered-none, close-container-step}

-- ---- containers within containers
abbrev Steady : (Met → ℕ → List Span → State → State) → Type 0
Steady c = (top : Bool) (p l : List ℕ) (m : Met) (line : ℕ) (ls : List Span) (s : State) → Around l (length p) → Level top p l s → ((kind_num m.kind ≡ 9 → ⊥) → None top p l s)
    → (c m line ls s).number ≡ 0 → Done top p l m.kind s (c m line ls s)

-- a block of a level, and a run of them
abbrev Calm : Bool → (Measured → List Span → State → State) → Type 0
Calm top b = (p l : List ℕ) (m : Measured) (ls : List Span) (s : State) → Around l (length p) → Level top p l s → (b m ls s).number ≡ 0 → Between top p l m.kind s (b m ls s)

abbrev On : Bool → List ℕ → List ℕ → State → State → Type 0
On top p l s r = Level top p l r × (top ≡ false → r.sec ≡ s.sec)

run_step : (text : List ℕ) (top : Bool) (block : Measured → List Span → State → State) → Calm top block → (p l : List ℕ) (xs : List Span) (k : ℕ) (s : State)
    → Around l (length p) → Level top p l s → (run_of text block xs k s).number ≡ 0 → On top p l s (run_of text block xs k s)
unfolding run_of
run_step text top block f p l [] k s a h = λ z. (h, λ t. refl)
run_step text top block f p l (x ∷ xs) (suc k) s a h = run_step text top block f p l xs k s a h
run_step text top block f p l (x ∷ xs) zero s a h =
    let m = measure_of text (x ∷ xs) in
    let n = m.lines - m.given in
    let b = block m (take n (x ∷ xs)) s in
    passed b (run_of text block xs (n - 1)) (λ r. On top p l s r) (λ zb z.
    let y = f p l m (take n (x ∷ xs)) s a h zb in
    let r = run_step text top block f p l xs (n - 1) b a y.level z in
    (r.0, λ t. r.1 t ∙ y.secs t))

-- an item is a container
pub no_item : (k : Kind) → is_container k ≡ false → kind_num k ≡ 9 → ⊥
no_item Blankline c e = omega arith
no_item Attributes c e = omega arith
no_item ThematicBreak c e = omega arith
no_item Paragraph c e = omega arith
no_item (Heading l) c e = omega arith
no_item (Fenced i l m s y n) c e = omega arith
no_item (Definition i f s b) c e = omega arith
no_item Blockquote c e = omega arith
no_item (ListItem i m b) c e = true≢false c
no_item (Table x b) c e = omega arith

goes-item : (k : Kind) (s : State) → goes_on k s ≡ true → kind_num k ≡ 9
goes-item k s g = by-case (eqb (kind_num k) 9) refl
  where
    by-case : (b : Bool) → eqb (kind_num k) 9 ≡ b → kind_num k ≡ 9
    by-case true e = eqb-true (kind_num k) 9 e
    by-case false e = absurd (true≢false (sym g ∙ not-item k s e))

done-between : (top : Bool) (p l : List ℕ) (k : Kind) (s a r : State) → Between top p l k s a → Done top p l k a r → Between top p l k s r
done-between top p l k s a r h d = record {
  level = done-level top p l k a r d;
  none = d.none;
  on = λ x g.
      let y = h.on x g in
      let i = goes-item k s g in
      (d.item i, d.on i y.0 ∙ y.1);
  secs = λ t. d.secs t ∙ h.secs t;
}

module _ (text : List ℕ) (lim : Limits) (c : Met → ℕ → List Span → State → State) (f : Steady c) (left : ℕ) (top : Bool) (p l : List ℕ) where
  body-step : (m : Met) (line : ℕ) (xs : List Span) (s : State) → Around l (length p) → Level top p l s → ((kind_num m.kind ≡ 9 → ⊥) → None top p l s)
      → (body_of text c top m line xs s).number ≡ 0 → Done top p l m.kind s (body_of text c top m line xs s)
  unfolding body_of
  body-step m line xs s a h n =
      chosen (is_container m.kind) (c m line xs s) (plain_of text top m line xs s) (λ r. Done top p l m.kind s r) (λ e. f top p l m line xs s a h n) (λ e z.
      let i = no_item m.kind e in
      let q = plain_step text top p l m line xs s (n i) z in
      record { none = λ u. q.0; item = λ u. absurd (i u); on = λ u. absurd (i u); secs = q.1 })

  block-step : (measured : Measured) (ls : List Span) (s : State) → Around l (length p) → Level top p l s → (block_of text lim c left top measured ls s).number ≡ 0
      → Between top p l measured.kind s (block_of text lim c left top measured ls s)
  unfolding block_of met_of
  block-step measured ls s x h =
      let m = met_of measured ls in
      let k = measured.kind in
      let line = (first_line ls).start in
      let xs = inner_lines m.kind (skip_opening text m ls) in
      let a = ready_of lim left top m (marker_start m line) measured.looks s in
      let last : State → State → State = λ a b. with_at s.at (attr_of m (length a.evs) b) in
      let b = body_of text c top m line xs a in
      let P : State → Type 0 = λ r. Between top p l k s r in
      passed a (λ a. go (body_of text c top m line xs a) (last a)) P (λ za.
      let y = ready-step lim left top p l m (marker_start m line) measured.looks s x h za in
      passed b (last a) P (λ zb z.
      done-between top p l k s a (last a b) y (done-same top p l k a a b (last a b) (refl, refl, refl) (body-step m line xs a x y.level y.none zb) (same-attr m (length a.evs) b))))

-- what it holds leaves all around it as the container's Enters left it
inside-step : (text : List ℕ) (block : Measured → List Span → State → State) → Calm false block → (m : Met) (xs : List Span) (y b : State) (x : Entered y b)
    → Around y.lst (length (y.opn ++ (x.place ∷ []))) → (go (run_of text block xs 0 b) (close_container m (length b.opn - 1))).number ≡ 0
    → Same y (go (run_of text block xs 0 b) (close_container m (length b.opn - 1)))
inside-step text block f m xs y b x a =
    let c = run_of text block xs 0 b in
    let d = length b.opn - 1 in
    let n : length y.opn ≡ d = omega (arith, ap (λ (o : List ℕ). length o) x.opn, length-append y.opn (x.place ∷ [])) in
    passed c (close_container m d) (λ r. Same y r) (λ zc.
    let q = run_step text false block f (y.opn ++ (x.place ∷ [])) y.lst xs 0 b a (inl (entered-none y b x)) zc in
    close-container-step m d x.place y c n a q.0 (q.1 refl ∙ x.sec))

container-step : (text : List ℕ) (lim : Limits) (n : ℕ) → Steady (container_at text lim n)
unfolding container_at container_of
container-step text lim zero top p l m line ls s a h o = λ z. absurd (omega arith)
container-step text lim (suc n) top p l m line ls s a h o =
    let block = block_of text lim (container_at text lim n) n false in
    let f = block-step text lim (container_at text lim n) (container-step text lim n) n false in
    let xs = strip_lines text m.kind (m.end - line) ls in
    let v = with_spare (min n s.spare) s in
    let y = listed m v in
    let b = open_container text m line v in
    let next : State → State = λ x. go (run_of text block xs 0 x) (close_container m (length x.opn - 1)) in
    passed b next (λ r. Done top p l m.kind s r) (λ zb z.
    let x = open_step text m line v zb in
    let d = list-step top p l m v a (level-same top p l s v (refl, refl, refl) h) (λ i. none-same top p l s v (refl, refl, refl) (o i)) x.0 in
    let i = inside-around top p l y x.1.place a (done-level top p l m.kind v y d) in
    done-same top p l m.kind s v y (next b) (refl, refl, refl) d (inside-step text block f m xs y b x.1 i z))

-- ---- the laws
pub block-between : (text : List ℕ) (lim : Limits) (n : ℕ) (top : Bool) (p l : List ℕ) (measured : Measured) (ls : List Span) (s : State)
    → Around l (length p) → Level top p l s
    → (block_of text lim (container_at text lim n) n top measured ls s).number ≡ 0
    → Between top p l measured.kind s (block_of text lim (container_at text lim n) n top measured ls s)
block-between text lim n top p l measured ls s = block-step text lim (container_at text lim n) (container-step text lim n) n top p l measured ls s

-- the level inside a container, once its Enters are written
pub record Begun (s : State) : Type 0 where
  pub p : List ℕ
  pub l : List ℕ
  pub around : Around l (length p)
  pub none : None false p l s

open-inside : (text : List ℕ) (top : Bool) (p l : List ℕ) (m : Met) (line : ℕ) (s : State) → Around l (length p) → Level top p l s → ((kind_num m.kind ≡ 9 → ⊥) → None top p l s)
    → (open_container text m line s).number ≡ 0 → Begun (open_container text m line s)
open-inside text top p l m line s a h n z =
    let y = listed m s in
    let x = open_step text m line s z in
    let d = list-step top p l m s a h n x.0 in
    record {
      p = y.opn ++ (x.1.place ∷ []);
      l = y.lst;
      around = inside-around top p l y x.1.place a (done-level top p l m.kind s y d);
      none = entered-none y (open_container text m line s) x.1;
    }

pub ready-inside : (text : List ℕ) (lim : Limits) (left : ℕ) (top : Bool) (p l : List ℕ) (m : Met) (at looks line x : ℕ) (s : State)
    → Around l (length p) → Level top p l s
    → (ready_of lim left top m at looks s).number ≡ 0
    → (open_container text m line (with_spare x (ready_of lim left top m at looks s))).number ≡ 0
    → Begun (open_container text m line (with_spare x (ready_of lim left top m at looks s)))
ready-inside text lim left top p l m at looks line x s a h za z =
    let r = ready_of lim left top m at looks s in
    let v = with_spare x r in
    let b = ready-step lim left top p l m at looks s a h za in
    open-inside text top p l m line v a (level-same top p l r v (refl, refl, refl) b.level) (λ n. none-same top p l r v (refl, refl, refl) (b.none n)) z
