use Rattle.std.proofs.Common.{ℕ, List, length, sym, ap, subst}
use Rattle.fields.specs.Numbers.{field_num}
use Rattle.entries.proofs.EntryLaws.{used-none, used-some, field-some}
use Rattle.entries.proofs.put_used.Goals as goal

pub put_spaced-requires : goal.put_spaced-requires
put_spaced-requires g c =
    subst (λ (l : List ℕ). g.S.Sink.fits c.args.sink.now (length l)) (used-some (field_num c.args.f) c.args.w (field-some c.args.f c.in_default.not-Nothing)) c.requires

pub returns-in-Nothing : goal.returns-in-Nothing
returns-in-Nothing g c =
    subst (λ (l : List ℕ). g.S.Sink.took c.args.sink.now l c.args.sink.now) (sym (used-none (field_num c.args.f) c.args.w (ap field_num c.in-Nothing.is))) (g.met.S.Sink.laws.none c.args.sink.now)

pub returns-in_default : goal.returns-in_default
returns-in_default g c =
    subst (λ (l : List ℕ). g.S.Sink.took c.args.sink.now l c.put_spaced.new.sink)
    (sym (used-some (field_num c.args.f) c.args.w (field-some c.args.f c.in_default.not-Nothing))) c.put_spaced.ensures
