use Rattle.std.proofs.Common.{ℕ, List, length, sym, ap, subst, arith}
use Rattle.entries.proofs.EntryLaws.{no-atom}
use Rattle.entries.specs.Text.{text}
use Rattle.entries.specs.Entries.{atom_name}
use Rattle.entries.proofs.put_atom.Goals as goal

pub put-requires : goal.put-requires
unfolding text atom_name
put-requires g c = subst (λ (l : List ℕ). g.S.Sink.fits c.args.sink.now (length l)) (ap atom_name c.in-1.is) c.requires

pub returns-in-1 : goal.returns-in-1
unfolding text atom_name
returns-in-1 g c = subst (λ (l : List ℕ). g.S.Sink.took c.args.sink.now l c.put.new.self) (sym (ap atom_name c.in-1.is)) c.put.ensures

pub put-requires-in-2 : goal.put-requires-in-2
unfolding text atom_name
put-requires-in-2 g c = subst (λ (l : List ℕ). g.S.Sink.fits c.args.sink.now (length l)) (ap atom_name c.in-2.is) c.requires

pub returns-in-2 : goal.returns-in-2
unfolding text atom_name
returns-in-2 g c = subst (λ (l : List ℕ). g.S.Sink.took c.args.sink.now l c.put-in-2.new.self) (sym (ap atom_name c.in-2.is)) c.put-in-2.ensures

pub put-requires-in-3 : goal.put-requires-in-3
unfolding text atom_name
put-requires-in-3 g c = subst (λ (l : List ℕ). g.S.Sink.fits c.args.sink.now (length l)) (ap atom_name c.in-3.is) c.requires

pub returns-in-3 : goal.returns-in-3
unfolding text atom_name
returns-in-3 g c = subst (λ (l : List ℕ). g.S.Sink.took c.args.sink.now l c.put-in-3.new.self) (sym (ap atom_name c.in-3.is)) c.put-in-3.ensures

pub returns-in_default : goal.returns-in_default
returns-in_default g c = subst (λ (l : List ℕ). g.S.Sink.took c.args.sink.now l c.args.sink.now) (sym (no-atom c.args.node (λ h. omega arith))) (g.met.S.Sink.laws.none c.args.sink.now)
