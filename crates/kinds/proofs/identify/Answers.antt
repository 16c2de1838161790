use Rattle.std.proofs.Common.{◌≡◌, ◌∙◌, ◌+◌, sym, ap, length, ℕ, List, Bool, false, eqb}
use mathlib.Core.Bool.{true≢false}
use borrow.Author.Tests.{eqb-true, eq-eqb}
use Rattle.trim.proofs.TrimLaws.{whole_drop, end-length}
use Rattle.kinds.specs.Identify.{identified_as, begin_of}
use Rattle.kinds.specs.declared.Kind.TheVariants.{ThematicBreak}
use Rattle.kinds.proofs.KindLaws.{line-blank, line-begin, begin-rule, begin-fence, begin-colon, begin-item}
use Rattle.kinds.proofs.identify.Goals as goal
use Rattle.kinds.proofs.identify.Goals.{in_default-via-in-45+else-is_break, in_default-via-in-58+else-not-ends, in_default-via-in_default-1}

is-full : (t : List ℕ) (x : Bool) → x ≡ eqb (length t) 0 → x ≡ false → length t ≡ 0 → ⊥
is-full t x p q e = true≢false (sym (eq-eqb (length t) 0 e) ∙ sym p ∙ q)

pub returns-then-is_empty : goal.returns-then-is_empty
returns-then-is_empty c = c.new.ensures ∙ line-blank c.args.line.now _ _ c.indent_of-n.ensures.0 (whole_drop c.args.line.now c.indent_of-n.result) (eqb-true _ 0 (sym c.is_empty.ensures ∙ c.if-is_empty.true))

pub returns-in-10 : goal.returns-in-10
unfolding begin_of
returns-in-10 c = line-begin c.args.line.now _ _ _ c.indent_of-n.ensures.0 (whole_drop c.args.line.now c.indent_of-n.result) (λ z. is-full _ _ c.is_empty.ensures c.if-is_empty.false z) (c.new-in-10.ensures ∙ sym (ap (begin_of c.indent_of-n.result _) c.in-10.is))

pub returns-in-35 : goal.returns-in-35
unfolding begin_of
returns-in-35 c = line-begin c.args.line.now _ _ _ c.indent_of-n.ensures.0 (whole_drop c.args.line.now c.indent_of-n.result) (λ z. is-full _ _ c.is_empty.ensures c.if-is_empty.false z) (c.heading.ensures ∙ sym (ap (begin_of c.indent_of-n.result _) c.in-35.is))

pub returns-in-62 : goal.returns-in-62
unfolding begin_of
returns-in-62 c = line-begin c.args.line.now _ _ _ c.indent_of-n.ensures.0 (whole_drop c.args.line.now c.indent_of-n.result) (λ z. is-full _ _ c.is_empty.ensures c.if-is_empty.false z) (c.quote.ensures ∙ sym (ap (begin_of c.indent_of-n.result _) c.in-62.is))

pub returns-in-123 : goal.returns-in-123
unfolding begin_of
returns-in-123 c = line-begin c.args.line.now _ _ _ c.indent_of-n.ensures.0 (whole_drop c.args.line.now c.indent_of-n.result) (λ z. is-full _ _ c.is_empty.ensures c.if-is_empty.false z) (c.attributes.ensures ∙ sym (ap (begin_of c.indent_of-n.result _) c.in-123.is))

pub returns-in-124 : goal.returns-in-124
unfolding begin_of
returns-in-124 c = line-begin c.args.line.now _ _ _ c.indent_of-n.ensures.0 (whole_drop c.args.line.now c.indent_of-n.result) (λ z. is-full _ _ c.is_empty.ensures c.if-is_empty.false z) (c.table.ensures ∙ sym (ap (begin_of c.indent_of-n.result _) c.in-124.is))

pub returns-in-91 : goal.returns-in-91
unfolding begin_of
returns-in-91 c = line-begin c.args.line.now _ _ _ c.indent_of-n.ensures.0 (whole_drop c.args.line.now c.indent_of-n.result) (λ z. is-full _ _ c.is_empty.ensures c.if-is_empty.false z) (c.definition.ensures ∙ sym (ap (begin_of c.indent_of-n.result _) c.in-91.is))

pub returns-in-45 : goal.returns-in-45
returns-in-45 c =
    line-begin c.args.line.now _ _ _ c.indent_of-n.ensures.0 (whole_drop c.args.line.now c.indent_of-n.result) (λ z. is-full _ _ c.is_empty.ensures c.if-is_empty.false z) (c.new-in-45.ensures ∙ ap (λ (k : ℕ). identified_as ThematicBreak c.indent_of-n.result (c.indent_of-n.result + k)) (end-length _ _ c.trim_end.ensures) ∙ begin-rule _ _ _ c.in-45.is _ (sym c.is_break.ensures ∙ c.if-is_break.true))

pub returns-in-96 : goal.returns-in-96
returns-in-96 c = line-begin c.args.line.now _ _ _ c.indent_of-n.ensures.0 (whole_drop c.args.line.now c.indent_of-n.result) (λ z. is-full _ _ c.is_empty.ensures c.if-is_empty.false z) (c.fence.ensures ∙ begin-fence _ _ _ c.in-96.is)

pub returns-in-58 : goal.returns-in-58
returns-in-58 c = line-begin c.args.line.now _ _ _ c.indent_of-n.ensures.0 (whole_drop c.args.line.now c.indent_of-n.result) (λ z. is-full _ _ c.is_empty.ensures c.if-is_empty.false z) (c.fence-in-58.ensures ∙ begin-colon _ _ _ _ c.in-58.is (sym c.ends.ensures ∙ c.if-not-ends.true))

pub returns-in_default : goal.returns-in_default
returns-in_default c =
    line-begin c.args.line.now _ _ _ c.indent_of-n.ensures.0 (whole_drop c.args.line.now c.indent_of-n.result) (λ z. is-full _ _ c.is_empty.ensures c.if-is_empty.false z) (c.item.ensures ∙ elim c.in_default.branch [
      | in_default-via-in-45+else-is_break w ↦ begin-rule _ _ _ w.in-45.is _ (sym w.is_break.ensures ∙ w.if-is_break.false)
      | in_default-via-in-58+else-not-ends w ↦ begin-colon _ _ _ _ w.in-58.is (sym w.ends.ensures ∙ w.if-not-ends.false)
      | in_default-via-in_default-1 w ↦ begin-item _ _ _ w.in_default-1.rest
    ])
