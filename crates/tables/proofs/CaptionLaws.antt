-- The caption's line, and the text of its lines. Assumes nothing.
use Prim.Native.Nat.{ℕ, zero, suc, ◌+◌, ◌*◌, ◌/◌, ◌≤◌, ◌<◌, min}
use mathlib.Core.Path.{◌≡◌, refl, sym, ap, ◌∙◌}
use mathlib.Core.Bool.{Bool, true, false}
use mathlib.Core.List.{List, [], ◌∷◌}
use native.Mathlib.Omega.{arith}
use lib.Dec.{eqb}
use lib.ListN.{length, drop, get_or}
use lib.Seq.{get_or-drop}
use borrow.Author.Tests.{eq-eqb, ne_eqb}
use Rattle.classes.specs.Choice.{pick}
use Rattle.lines.specs.Lines.{Span, span, spans_of}
use Rattle.lines.proofs.SpanLaws.{span-at, span-end}
use Rattle.trim.specs.Trim.{lead, part_of}
use Rattle.trim.proofs.TrimLaws.{part-further}
use Rattle.walk.specs.Leaf.{trim_front, trim_back}
use Rattle.walk.specs.Table.{caption_line, past_caret, caption_text}

-- ---- the line that a caption begins at
-- the first byte that is no whitespace stands after the whitespace at the front
first_byte : (text : List ℕ) (s e i : ℕ) (line : List ℕ) → line ≡ part_of text s e → lead line ≡ i →
    get_or (part_of text (trim_front text (span s e)).start e) 0 0 ≡ get_or line i 0
first_byte text s e i line p q =
    let n = lead (part_of text s e) in
    let z : lead line + 0 ≡ i = omega (arith, q) in
    ap (λ (l : List ℕ). get_or l 0 0) (sym (part-further text s n e)) ∙ get_or-drop n (part_of text s e) 0 0
    ∙ ap (λ (l : List ℕ). get_or l (lead l + 0) 0) (sym p) ∙ ap (λ (m : ℕ). get_or line m 0) z

one_line : (text : List ℕ) (l : Span) (ls : List Span) →
    caption_line text (l ∷ ls) ≡ pick (eqb (get_or (part_of text (trim_front text l).start l.end) 0 0) 94) 0 (suc (caption_line text ls))
unfolding caption_line
one_line text l ls = refl

no_line : (text : List ℕ) → caption_line text [] ≡ 0
unfolding caption_line
no_line text = refl

module _ (text ws : List ℕ) (k : ℕ) (inv : caption_line text (spans_of ws) ≡ k + caption_line text (drop k (spans_of ws))) where
  pub line-none : length ws / 2 ≤ k → k ≡ caption_line text (spans_of ws)
  line-none h =
      let e : caption_line text (drop k (spans_of ws)) ≡ 0 = ap (λ (ls : List Span). caption_line text ls) (span-end ws k h) ∙ no_line text in
      omega (arith, inv, e)

  -- k is j, as the walk over the bytes knows it
  module _ (j i : ℕ) (line : List ℕ) (same : j ≡ k) (h : k < length ws / 2) (p : line ≡ part_of text (get_or ws (k * 2) 0) (get_or ws (k * 2 + 1) 0)) (q : lead line ≡ i) where
    tested : caption_line text (drop k (spans_of ws)) ≡ pick (eqb (get_or line i 0) 94) 0 (suc (caption_line text (drop (k + 1) (spans_of ws))))
    tested =
        let s = get_or ws (k * 2) 0 in
        let e = get_or ws (k * 2 + 1) 0 in
        let ls = drop (k + 1) (spans_of ws) in
        ap (λ (x : List Span). caption_line text x) (span-at ws k (omega arith)) ∙ one_line text (span s e) ls
        ∙ ap (λ (b : ℕ). pick {A = ℕ} (eqb b 94) 0 (suc (caption_line text ls))) (first_byte text s e i line p q)

    pub line-hit : get_or line i 0 ≡ 94 → j ≡ caption_line text (spans_of ws)
    line-hit c =
        let e : caption_line text (drop k (spans_of ws)) ≡ 0 = tested ∙ ap (λ (b : Bool). pick {A = ℕ} b 0 (suc (caption_line text (drop (k + 1) (spans_of ws))))) (eq-eqb (get_or line i 0) 94 c) in
        omega (arith, inv, e, same)

    pub line_on : (get_or line i 0 ≡ 94 → ⊥) → caption_line text (spans_of ws) ≡ j + 1 + caption_line text (drop (j + 1) (spans_of ws))
    line_on c =
        let e : caption_line text (drop k (spans_of ws)) ≡ suc (caption_line text (drop (k + 1) (spans_of ws))) =
        tested ∙ ap (λ (b : Bool). pick {A = ℕ} b 0 (suc (caption_line text (drop (k + 1) (spans_of ws))))) (ne_eqb (get_or line i 0) 94 c) in
        let f : caption_line text (spans_of ws) ≡ k + 1 + caption_line text (drop (k + 1) (spans_of ws)) = omega (arith, inv, e) in
        f ∙ ap (λ (n : ℕ). n + 1 + caption_line text (drop (n + 1) (spans_of ws))) (sym same)

-- nothing but whitespace: no byte, so no caret
pub no-caret : (line : List ℕ) (i : ℕ) → length line ≤ i → get_or line i 0 ≡ 94 → ⊥
no-caret [] i h e = omega (arith, e)
no-caret (b ∷ line) zero h e = omega arith
no-caret (b ∷ line) (suc i) h e = no-caret line i (omega arith) e

-- ---- the text of a caption's line
pub caret-fits : (m : ℕ) (part : List ℕ) → m ≡ min 2 (length part) → m ≤ length part
caret-fits m part e = omega (arith, e)

pub caret-past : (text : List ℕ) (start end s m r : ℕ) (part : List ℕ) →
    s ≡ (trim_front text (span start end)).start → part ≡ part_of text s end → m ≡ min 2 (length part) → r ≡ s + m →
    span r end ≡ past_caret text (span start end)
caret-past text start end s m r part p q e f =
    ap (λ (x : ℕ). span x end)
    (f ∙ ap (λ (x : ℕ). s + x) (e ∙ ap (λ (l : List ℕ). min 2 (length l)) q) ∙ ap (λ (x : ℕ). x + min 2 (length (part_of text x end))) p)

module _ (text : List ℕ) (first : Bool) (start end s : ℕ) where
  -- where it starts: past the caret on the first line, else where the line does
  pub starts-past : (r : ℕ) → first ≡ true → span r end ≡ past_caret text (span start end) → s ≡ r → span s end ≡ pick first (past_caret text (span start end)) (span start end)
  starts-past r f p e = ap (λ (x : ℕ). span x end) e ∙ p ∙ ap (λ (b : Bool). pick b (past_caret text (span start end)) (span start end)) (sym f)

  pub starts-there : first ≡ false → s ≡ start → span s end ≡ pick first (past_caret text (span start end)) (span start end)
  starts-there f e = ap (λ (x : ℕ). span x end) e ∙ ap (λ (b : Bool). pick b (past_caret text (span start end)) (span start end)) (sym f)

  module _ (p : span s end ≡ pick first (past_caret text (span start end)) (span start end)) (last : Bool) where
    pub text-last : (e : ℕ) → last ≡ true → e ≡ (trim_back text (span s end)).end → span s e ≡ caption_text text first last (span start end)
    text-last e t q =
        let a = pick first (past_caret text (span start end)) (span start end) in
        ap (λ (x : ℕ). span s x) q ∙ ap (λ (x : Span). trim_back text x) p ∙ ap (λ (b : Bool). pick b (trim_back text a) a) (sym t)

    pub text-other : last ≡ false → span s end ≡ caption_text text first last (span start end)
    text-other t =
        let a = pick first (past_caret text (span start end)) (span start end) in
        p ∙ ap (λ (b : Bool). pick b (trim_back text a) a) (sym t)
