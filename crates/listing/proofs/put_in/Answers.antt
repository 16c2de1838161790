use Rattle.std.proofs.Common.{◌≡◌, ℕ, List, length, sym, ap, ◌∙◌, subst}
use Rattle.listing.proofs.ModeLaws.{line-out, line_on}
use Rattle.listing.specs.Modes.{mode_num}
use Rattle.listing.proofs.put_in.Goals as goal

pub put_line-requires : goal.put_line-requires
put_line-requires g c = subst (λ (l : List ℕ). g.S.Sink.fits c.args.sink.now (length l)) (line_on (mode_num c.args.mode) c.args.x (sym c.left_out.ensures ∙ c.if-not-left_out.true)) c.requires

pub returns-then-not-left_out : goal.returns-then-not-left_out
returns-then-not-left_out g c =
    subst (λ (l : List ℕ). g.S.Sink.took c.args.sink.now l c.put_line.new.sink) (sym (line_on (mode_num c.args.mode) c.args.x (sym c.left_out.ensures ∙ c.if-not-left_out.true))) c.put_line.ensures

pub returns-else-not-left_out : goal.returns-else-not-left_out
returns-else-not-left_out g c =
    subst (λ (l : List ℕ). g.S.Sink.took c.args.sink.now l c.args.sink.now) (sym (line-out (mode_num c.args.mode) c.args.x (sym c.left_out.ensures ∙ c.if-not-left_out.false))) (g.met.S.Sink.laws.none c.args.sink.now)
