use native.Mathlib.Omega.{arith}
use mathlib.Core.Path.{ap, ◌∙◌}
use Prim.Native.Nat.{ℕ, min}
use Rattle.trim.specs.Trim.{lead}
use Rattle.trim.proofs.TrimLaws.{start-off}
use Rattle.containers.proofs.PrefixLaws.{skip-quote, skip-fence, skip-opening}
use Rattle.containers.proofs.skip_of.Goals as goal

pub returns-then-n-eq-BLOCKQUOTE : goal.returns-then-n-eq-BLOCKQUOTE
returns-then-n-eq-BLOCKQUOTE c = c.strip_quote.ensures ∙ skip-quote c.args.kind c.args.opening c.args.line.now _ c.kind_num-n.ensures c.if-n-eq-BLOCKQUOTE.true

pub overflow_sub-lead : goal.overflow_sub-lead
overflow_sub-lead c = omega (arith, (start-off _ _ c.trim_start.ensures).0)

pub returns-then-n-eq-FENCED : goal.returns-then-n-eq-FENCED
returns-then-n-eq-FENCED c =
    c.least.ensures ∙ ap (λ (n : ℕ). min n c.indent_of.result) (start-off _ _ c.trim_start.ensures).1 ∙ ap (λ (n : ℕ). min (lead c.args.line.now) n) c.indent_of.ensures
    ∙ skip-fence c.args.kind c.args.opening c.args.line.now _ c.kind_num-n.ensures c.if-n-eq-BLOCKQUOTE.false c.if-n-eq-FENCED.true

pub returns : goal.returns
returns c =
    c.least-2.ensures ∙ ap (λ (n : ℕ). min n c.args.opening) (start-off _ _ c.trim_start.ensures).1
    ∙ skip-opening c.args.kind c.args.opening c.args.line.now _ c.kind_num-n.ensures c.if-n-eq-BLOCKQUOTE.false c.if-n-eq-FENCED.false
