use native.Mathlib.Omega.{arith}
use mathlib.Core.Path.{sym, ap, subst, ◌∙◌}
use mathlib.Core.List.{List, ◌++◌}
use Prim.Native.Nat.{ℕ, ◌*◌}
use lib.ListN.{length, take, drop}
use lib.Seq.{length-take-le}
use Rattle.lines.specs.Lines.{spans_of}
use Rattle.parse.specs.Parse.{Outcome}
use Rattle.walk.specs.declared.Limits.{Limits}
use Rattle.parse.specs.Shows.{Shows}
use Rattle.parse.proofs.ParseLaws.{walked_by, split-count, split-spans, parse-unsplit, words-unsplit, parse-refused, parse-done, cleared, rejoined}
use Rattle.parse.proofs.parse_within.Goals as goal

pub overflow_mul-n : goal.overflow_mul-n
overflow_mul-n c = omega (arith, (split-count c.args.text.now c.args.lines.now c.args.limit c.in-Ok.n (sym c.in-Ok.is ∙ c.split_lines.ensures.0)).2, c.well_formed.1.0.1)

pub slice_bounds-document-end : goal.slice_bounds-document-end
slice_bounds-document-end c = omega (arith, (split-count c.args.text.now c.args.lines.now c.args.limit c.in-Ok.n (sym c.in-Ok.is ∙ c.split_lines.ensures.0)).2, c.split_lines.auto.words)

pub slice_bounds-document-end-in-Ok : goal.slice_bounds-document-end-in-Ok
slice_bounds-document-end-in-Ok c = sym (length-take-le (2 * c.in-Ok.n) c.split_lines.new.words (omega (arith, (split-count c.args.text.now c.args.lines.now c.args.limit c.in-Ok.n (sym c.in-Ok.is ∙ c.split_lines.ensures.0)).2, c.split_lines.auto.words)))

pub document-st-requires : goal.document-st-requires
document-st-requires c =
    let a = c.args in
    let e = sym c.in-Ok.is ∙ c.split_lines.ensures.0 in (
      ap (λ (x : List ℕ). spans_of (take (2 * c.in-Ok.n) x)) c.split_lines.ensures.1 ∙ split-spans a.text.now a.lines.now a.limit c.in-Ok.n e,
      omega (arith, (split-count a.text.now a.lines.now a.limit c.in-Ok.n e).1, c.ranges.limit.fits),
    )

pub returns-then-st-ne0 : goal.returns-then-st-ne0
returns-then-st-ne0 c =
    let a = c.args in
    let e = sym c.in-Ok.is ∙ c.split_lines.ensures.0 in
    let h = subst (λ (l : Limits). Shows c.document-st.result c.document-st.new.events (walked_by a.text.now (length a.events.now) l)) c.capped.ensures c.document-st.ensures in
    let q = parse-refused a.limit a.lim a.text.now a.lines.now a.events.now c.in-Ok.n e c.document-st.result c.document-st.new.events c.document-st.auto.events h c.if-st-ne0.true in record { value = c.refused-then-st-ne0.ensures ∙ sym (ap (λ (o : Outcome). o.answer) q); lines_after = cleared a.lines.now (c.document-st.new.lines ++ drop (2 * c.in-Ok.n) c.split_lines.new.words) c.clear.new.words c.clear.ensures (rejoined c.split_lines.new.words c.document-st.new.lines (2 * c.in-Ok.n) c.document-st.auto.lines (omega (arith, (split-count c.args.text.now c.args.lines.now c.args.limit c.in-Ok.n (sym c.in-Ok.is ∙ c.split_lines.ensures.0)).2, c.split_lines.auto.words)) ∙ c.split_lines.auto.words) ∙ sym (ap (λ (o : Outcome). o.lines) q); events_after = cleared a.events.now c.document-st.new.events c.clear-then-st-ne0.new.words c.clear-then-st-ne0.ensures c.document-st.auto.events ∙ sym (ap (λ (o : Outcome). o.events) q) }

pub clear-requires-in-Ok : goal.clear-requires-in-Ok
clear-requires-in-Ok c = c.document-st.ensures.words

pub returns-in-Err : goal.returns-in-Err
returns-in-Err c =
    let a = c.args in
    let e = sym c.in-Err.is ∙ c.split_lines.ensures.0 in
    let q = parse-unsplit a.limit a.lim a.text.now a.lines.now a.events.now _ e in record { value = c.refused.ensures ∙ rw c.from.ensures (sym (ap (λ (o : Outcome). o.answer) q)); lines_after = c.split_lines.ensures.1 ∙ words-unsplit a.limit a.lim a.text.now a.lines.now a.events.now _ e ∙ sym (ap (λ (o : Outcome). o.lines) q); events_after = sym (ap (λ (o : Outcome). o.events) q) }

pub returns-else-st-ne0 : goal.returns-else-st-ne0
returns-else-st-ne0 c =
    let a = c.args in
    let e = sym c.in-Ok.is ∙ c.split_lines.ensures.0 in
    let h = subst (λ (l : Limits). Shows c.document-st.result c.document-st.new.events (walked_by a.text.now (length a.events.now) l)) c.capped.ensures c.document-st.ensures in
    let q = parse-done a.limit a.lim a.text.now a.lines.now a.events.now c.in-Ok.n e c.document-st.result c.document-st.new.events c.document-st.auto.events h c.if-st-ne0.false in record { value = sym (ap (λ (o : Outcome). o.answer) q); lines_after = cleared a.lines.now (c.document-st.new.lines ++ drop (2 * c.in-Ok.n) c.split_lines.new.words) c.clear.new.words c.clear.ensures (rejoined c.split_lines.new.words c.document-st.new.lines (2 * c.in-Ok.n) c.document-st.auto.lines (omega (arith, (split-count c.args.text.now c.args.lines.now c.args.limit c.in-Ok.n (sym c.in-Ok.is ∙ c.split_lines.ensures.0)).2, c.split_lines.auto.words)) ∙ c.split_lines.auto.words) ∙ sym (ap (λ (o : Outcome). o.lines) q); events_after = c.clear-in-Ok.ensures ∙ sym (ap (λ (o : Outcome). o.events) q) }
