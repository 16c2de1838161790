-- A block's lines, one look at a time. Assumes nothing.
use mathlib.Core.Path.{◌≡◌, refl, ◌∙◌, sym, ap}
use mathlib.Core.Bool.{Bool, true, false, true≢false}
use mathlib.Core.List.{List, [], ◌∷◌, ◌++◌}
use Prim.Native.Nat.{ℕ, zero, suc, ◌+◌, ◌<◌}
use native.Mathlib.Omega.{arith}
use lib.Dec.{eqb}
use lib.ListN.{length, get_or}
use borrow.Author.Tests.{eq-eqb, ne_eqb}
use Rattle.classes.specs.Choice.{pick}
use Rattle.lines.specs.Lines.{Span, span, spans_of}
use Rattle.trim.specs.Trim.{trim_both}
use Rattle.kinds.specs.Identify.{identify_of}
use Rattle.kinds.specs.declared.Identified.{Identified}
use Rattle.kinds.specs.declared.Kind.{Kind}
use Rattle.kinds.specs.declared.Kind.TheVariants.{Blankline, Attributes, ThematicBreak, Paragraph, Heading, Fenced, Definition, Blockquote, ListItem, Table}
use Rattle.measure.specs.Continue.{Taken, taken_as, num_of, indented_on, caption_at, open_fence, definition_on, item_on, table_on, continues_of}
use Rattle.measure.specs.Measure.{gives_back, line_in, measured_as, extend_of, measure_of}
use Rattle.measure.specs.Look.{Looked, looked_as, begun_as, goes_as, look_of}
use Rattle.measure.specs.declared.Measured.{Measured}
use Rattle.measure.proofs.NumberLaws.{begins-back}

-- ---- a line that is not taken leaves the kind as it is
abbrev Stays : Kind → Taken → Type 0
Stays k t = t.taken ≡ false → t.kind ≡ k

stays-pick : (k : Kind) (b : Bool) (t u : Taken) → Stays k t → Stays k u → Stays k (pick b t u)
stays-pick k true t u p q = p
stays-pick k false t u p q = q

stays-taken : (k x : Kind) → Stays k (taken_as true x)
stays-taken k x e = absurd (true≢false e)

stays : (k : Kind) (line : List ℕ) → Stays k (continues_of k line)
unfolding continues_of open_fence definition_on item_on table_on
stays Blankline line e = refl
stays Attributes line e = refl
stays ThematicBreak line e = refl
stays Paragraph line e = refl
stays (Heading l) line e = refl
stays (Fenced i l m s c n) line e = stays-pick _ c _ _ (λ z. refl) (stays-taken _ _) e
stays (Definition i f s b) line e = stays-pick _ f _ _ (stays-pick _ (indented_on i b (num_of line) line) _ _ (stays-taken _ _) (λ z. refl)) (λ z. refl) e
stays Blockquote line e = refl
stays (ListItem i m b) line e = stays-pick _ (indented_on i b (num_of line) line) _ _ (stays-taken _ _) (λ z. refl) e
stays (Table c b) line e =
    let row = trim_both line in
    stays-pick _ c _ _ (λ z. refl)
    (stays-pick _ (eqb (length row) 0) _ _ (stays-taken _ _)
    (stays-pick _ (caption_at row) _ _ (stays-taken _ _)
    (stays-pick _ b _ _ (λ z. refl) (λ z. refl)))) e

-- ---- the words of a line, and those after it
pub span-next : (ws r s : List ℕ) → s ≡ ws ++ r → length ws ≡ 2 → spans_of s ≡ span (get_or ws 0 0) (get_or ws 1 0) ∷ spans_of r
unfolding spans_of
span-next [] r s p h = absurd (omega arith)
span-next (a ∷ []) r s p h = absurd (omega arith)
span-next (a ∷ b ∷ []) r s p h = rw p
span-next (a ∷ b ∷ c ∷ ws) r s p h = absurd (omega arith)

pub span-none : (ws : List ℕ) → length ws < 2 → spans_of ws ≡ []
unfolding spans_of
span-none [] h = refl
span-none (a ∷ []) h = refl
span-none (a ∷ b ∷ ws) h = absurd (omega arith)

-- ---- one look
module _ (m : Measured) (line : List ℕ) (t : Bool) (y : Measured) (q : looked_as t y ≡ look_of m line) where
  pub looked-more : (y.looks ≡ m.looks + 1) × (y.lines ≡ m.lines) × (y.given ≡ m.given)
  unfolding look_of
  looked-more = by-case (eqb m.lines 0) q
    where
      by-case : (x : Bool) → looked_as t y ≡ pick x (begun_as m (identify_of line)) (goes_as m (continues_of m.kind line)) → (y.looks ≡ m.looks + 1) × (y.lines ≡ m.lines) × (y.given ≡ m.given)
      by-case true e = let f = ap (λ (z : Looked). z.block) e in rw f (refl, refl, refl)
      by-case false e = let f = ap (λ (z : Looked). z.block) e in rw f (refl, refl, refl)

  begun : m.lines ≡ 0 → looked_as t y ≡ begun_as m (identify_of line)
  unfolding look_of
  begun z = q ∙ rw (eq-eqb m.lines 0 z)

  went : (m.lines ≡ 0 → ⊥) → looked_as t y ≡ goes_as m (continues_of m.kind line)
  unfolding look_of
  went z = q ∙ rw (ne_eqb m.lines 0 z)

-- ---- the lines that are left, and what the block has so far
abbrev resumed : List ℕ → Measured → List Span → Measured
resumed text m xs = extend_of text m.opening.start m.opening.end m.kind xs m.lines m.given m.looks

pub record Stage (text : List ℕ) (all : List Span) (m : Measured) (rest : List Span) : Type 0 where
  pub fresh : m.lines ≡ 0 → (m ≡ measured_as Blankline 0 0 0 0 0) × (rest ≡ all)
  pub whole : (m.lines ≡ 0 → ⊥) → resumed text m rest ≡ measure_of text all

pub stage-start : (text : List ℕ) (all : List Span) → Stage text all (measured_as Blankline 0 0 0 0 0) all
stage-start text all = record { fresh = λ z. (refl, refl); whole = λ z. absurd (z refl) }

pub stage-end : (text : List ℕ) (all : List Span) (m : Measured) (rest : List Span) → rest ≡ [] → Stage text all m rest → m ≡ measure_of text all
unfolding extend_of measure_of
stage-end text all m rest p s = by-case m.lines refl
  where
    by-case : (n : ℕ) → m.lines ≡ n → m ≡ measure_of text all
    by-case zero e = let f = s.fresh e in f.0 ∙ ap (λ (ls : List Span). measure_of text ls) (sym p ∙ f.1)
    by-case (suc n) e = ap (λ (ls : List Span). resumed text m ls) (sym p) ∙ s.whole (λ z. omega arith)

-- one line more is tested
module _ (text : List ℕ) (all : List Span) (m : Measured) (x : Span) (xs rest : List Span) (p : rest ≡ x ∷ xs) (s : Stage text all m rest) (t : Bool) (y : Measured)
    (q : looked_as t y ≡ look_of m (line_in text x)) where
  first : m.lines ≡ 0 → t ≡ true
  first z = ap (λ (l : Looked). l.taken) (begun m (line_in text x) t y q z)

  module _ (z : m.lines ≡ 0 → ⊥) where
    abbrev next : Taken
    next = continues_of m.kind (line_in text x)

    same-taken : t ≡ next.taken
    same-taken = ap (λ (l : Looked). l.taken) (went m (line_in text x) t y q z)

    changed : y ≡ record m { kind = next.kind; looks = m.looks + 1 }
    changed = ap (λ (l : Looked). l.block) (went m (line_in text x) t y q z)

    tested : resumed text m (x ∷ xs) ≡ measure_of text all
    tested = ap (λ (ls : List Span). resumed text m ls) (sym p) ∙ s.whole z

    later-on : t ≡ true → (g : ℕ) → g ≡ gives_back y.kind y.given → resumed text (record y { lines = y.lines + 1; given = g }) xs ≡ measure_of text all
    unfolding extend_of
    later-on e g h =
        let v : next.taken ≡ true = sym same-taken ∙ e in
        let w : resumed text m (x ∷ xs) ≡ extend_of text m.opening.start m.opening.end next.kind xs (m.lines + 1) (gives_back next.kind m.given) (m.looks + 1) = rw v in
        ap (λ (b : Measured). extend_of text b.opening.start b.opening.end b.kind xs (b.lines + 1) g b.looks) changed
        ∙ ap (λ (k : ℕ). extend_of text m.opening.start m.opening.end next.kind xs (m.lines + 1) k (m.looks + 1)) (h ∙ ap (λ (b : Measured). gives_back b.kind b.given) changed)
        ∙ sym w
        ∙ tested

    later-stop : t ≡ false → y ≡ measure_of text all
    unfolding extend_of
    later-stop e =
        let v : next.taken ≡ false = sym same-taken ∙ e in
        let w : resumed text m (x ∷ xs) ≡ record m { looks = m.looks + 1 } = rw v in
        changed ∙ ap (λ (k : Kind). record m { kind = k; looks = m.looks + 1 }) (stays m.kind (line_in text x) v) ∙ sym w ∙ tested

  module _ (z : m.lines ≡ 0) where
    abbrev found : Identified
    found = identify_of (line_in text x)

    block : y ≡ record { kind = found.kind; opening = found.opening; lines = 0; given = 0; looks = 1 }
    block = ap (λ (l : Looked). l.block) (begun m (line_in text x) t y q z) ∙ ap (λ (b : Measured). record b { kind = found.kind; opening = found.opening; looks = b.looks + 1 }) (s.fresh z).0

    first-on : (g : ℕ) → g ≡ gives_back y.kind y.given → resumed text (record y { lines = y.lines + 1; given = g }) xs ≡ measure_of text all
    unfolding measure_of
    first-on g h =
        ap (λ (b : Measured). extend_of text b.opening.start b.opening.end b.kind xs (b.lines + 1) g b.looks) block
        ∙ ap (λ (k : ℕ). extend_of text found.opening.start found.opening.end found.kind xs 1 k 1) (h ∙ ap (λ (b : Measured). gives_back b.kind b.given) block ∙ begins-back (line_in text x))
        ∙ ap (λ (ls : List Span). measure_of text ls) (sym p ∙ (s.fresh z).1)

  pub stage-on : t ≡ true → (g : ℕ) → g ≡ gives_back y.kind y.given → Stage text all (record y { lines = y.lines + 1; given = g }) xs
  stage-on e g h = record { fresh = λ z. absurd (omega arith); whole = λ z. by-case m.lines refl }
    where
      by-case : (n : ℕ) → m.lines ≡ n → resumed text (record y { lines = y.lines + 1; given = g }) xs ≡ measure_of text all
      by-case zero z = first-on z g h
      by-case (suc n) z = later-on (λ w. omega arith) e g h

  pub stage-stop : t ≡ false → y ≡ measure_of text all
  stage-stop e = by-case m.lines refl
    where
      by-case : (n : ℕ) → m.lines ≡ n → y ≡ measure_of text all
      by-case zero z = absurd (true≢false (sym (first z) ∙ e))
      by-case (suc n) z = later-stop (λ w. omega arith) e
