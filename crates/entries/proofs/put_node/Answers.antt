use Rattle.std.proofs.Common.{ℕ, List, length, sym, ap, subst, arith}
use Rattle.entries.proofs.EntryLaws.{no_node}
use Rattle.entries.specs.Text.{text}
use Rattle.entries.specs.Entries.{node_name}
use Rattle.entries.proofs.put_node.Goals as goal

pub put-requires : goal.put-requires
unfolding text node_name
put-requires g c = subst (λ (l : List ℕ). g.S.Sink.fits c.args.sink.now (length l)) (ap node_name c.in-1.is) c.requires

pub returns-in-1 : goal.returns-in-1
unfolding text node_name
returns-in-1 g c = subst (λ (l : List ℕ). g.S.Sink.took c.args.sink.now l c.put.new.self) (sym (ap node_name c.in-1.is)) c.put.ensures

pub put-requires-in-2 : goal.put-requires-in-2
unfolding text node_name
put-requires-in-2 g c = subst (λ (l : List ℕ). g.S.Sink.fits c.args.sink.now (length l)) (ap node_name c.in-2.is) c.requires

pub returns-in-2 : goal.returns-in-2
unfolding text node_name
returns-in-2 g c = subst (λ (l : List ℕ). g.S.Sink.took c.args.sink.now l c.put-in-2.new.self) (sym (ap node_name c.in-2.is)) c.put-in-2.ensures

pub put-requires-in-3 : goal.put-requires-in-3
unfolding text node_name
put-requires-in-3 g c = subst (λ (l : List ℕ). g.S.Sink.fits c.args.sink.now (length l)) (ap node_name c.in-3.is) c.requires

pub returns-in-3 : goal.returns-in-3
unfolding text node_name
returns-in-3 g c = subst (λ (l : List ℕ). g.S.Sink.took c.args.sink.now l c.put-in-3.new.self) (sym (ap node_name c.in-3.is)) c.put-in-3.ensures

pub put-requires-in-4 : goal.put-requires-in-4
unfolding text node_name
put-requires-in-4 g c = subst (λ (l : List ℕ). g.S.Sink.fits c.args.sink.now (length l)) (ap node_name c.in-4.is) c.requires

pub returns-in-4 : goal.returns-in-4
unfolding text node_name
returns-in-4 g c = subst (λ (l : List ℕ). g.S.Sink.took c.args.sink.now l c.put-in-4.new.self) (sym (ap node_name c.in-4.is)) c.put-in-4.ensures

pub put-requires-in-5 : goal.put-requires-in-5
unfolding text node_name
put-requires-in-5 g c = subst (λ (l : List ℕ). g.S.Sink.fits c.args.sink.now (length l)) (ap node_name c.in-5.is) c.requires

pub returns-in-5 : goal.returns-in-5
unfolding text node_name
returns-in-5 g c = subst (λ (l : List ℕ). g.S.Sink.took c.args.sink.now l c.put-in-5.new.self) (sym (ap node_name c.in-5.is)) c.put-in-5.ensures

pub put-requires-in-6 : goal.put-requires-in-6
unfolding text node_name
put-requires-in-6 g c = subst (λ (l : List ℕ). g.S.Sink.fits c.args.sink.now (length l)) (ap node_name c.in-6.is) c.requires

pub returns-in-6 : goal.returns-in-6
unfolding text node_name
returns-in-6 g c = subst (λ (l : List ℕ). g.S.Sink.took c.args.sink.now l c.put-in-6.new.self) (sym (ap node_name c.in-6.is)) c.put-in-6.ensures

pub put-requires-in-7 : goal.put-requires-in-7
unfolding text node_name
put-requires-in-7 g c = subst (λ (l : List ℕ). g.S.Sink.fits c.args.sink.now (length l)) (ap node_name c.in-7.is) c.requires

pub returns-in-7 : goal.returns-in-7
unfolding text node_name
returns-in-7 g c = subst (λ (l : List ℕ). g.S.Sink.took c.args.sink.now l c.put-in-7.new.self) (sym (ap node_name c.in-7.is)) c.put-in-7.ensures

pub put-requires-in-8 : goal.put-requires-in-8
unfolding text node_name
put-requires-in-8 g c = subst (λ (l : List ℕ). g.S.Sink.fits c.args.sink.now (length l)) (ap node_name c.in-8.is) c.requires

pub returns-in-8 : goal.returns-in-8
unfolding text node_name
returns-in-8 g c = subst (λ (l : List ℕ). g.S.Sink.took c.args.sink.now l c.put-in-8.new.self) (sym (ap node_name c.in-8.is)) c.put-in-8.ensures

pub put-requires-in-9 : goal.put-requires-in-9
unfolding text node_name
put-requires-in-9 g c = subst (λ (l : List ℕ). g.S.Sink.fits c.args.sink.now (length l)) (ap node_name c.in-9.is) c.requires

pub returns-in-9 : goal.returns-in-9
unfolding text node_name
returns-in-9 g c = subst (λ (l : List ℕ). g.S.Sink.took c.args.sink.now l c.put-in-9.new.self) (sym (ap node_name c.in-9.is)) c.put-in-9.ensures

pub put-requires-in-10 : goal.put-requires-in-10
unfolding text node_name
put-requires-in-10 g c = subst (λ (l : List ℕ). g.S.Sink.fits c.args.sink.now (length l)) (ap node_name c.in-10.is) c.requires

pub returns-in-10 : goal.returns-in-10
unfolding text node_name
returns-in-10 g c = subst (λ (l : List ℕ). g.S.Sink.took c.args.sink.now l c.put-in-10.new.self) (sym (ap node_name c.in-10.is)) c.put-in-10.ensures

pub put-requires-in-11 : goal.put-requires-in-11
unfolding text node_name
put-requires-in-11 g c = subst (λ (l : List ℕ). g.S.Sink.fits c.args.sink.now (length l)) (ap node_name c.in-11.is) c.requires

pub returns-in-11 : goal.returns-in-11
unfolding text node_name
returns-in-11 g c = subst (λ (l : List ℕ). g.S.Sink.took c.args.sink.now l c.put-in-11.new.self) (sym (ap node_name c.in-11.is)) c.put-in-11.ensures

pub put-requires-in-12 : goal.put-requires-in-12
unfolding text node_name
put-requires-in-12 g c = subst (λ (l : List ℕ). g.S.Sink.fits c.args.sink.now (length l)) (ap node_name c.in-12.is) c.requires

pub returns-in-12 : goal.returns-in-12
unfolding text node_name
returns-in-12 g c = subst (λ (l : List ℕ). g.S.Sink.took c.args.sink.now l c.put-in-12.new.self) (sym (ap node_name c.in-12.is)) c.put-in-12.ensures

pub put-requires-in-13 : goal.put-requires-in-13
unfolding text node_name
put-requires-in-13 g c = subst (λ (l : List ℕ). g.S.Sink.fits c.args.sink.now (length l)) (ap node_name c.in-13.is) c.requires

pub returns-in-13 : goal.returns-in-13
unfolding text node_name
returns-in-13 g c = subst (λ (l : List ℕ). g.S.Sink.took c.args.sink.now l c.put-in-13.new.self) (sym (ap node_name c.in-13.is)) c.put-in-13.ensures

pub put-requires-in-14 : goal.put-requires-in-14
unfolding text node_name
put-requires-in-14 g c = subst (λ (l : List ℕ). g.S.Sink.fits c.args.sink.now (length l)) (ap node_name c.in-14.is) c.requires

pub returns-in-14 : goal.returns-in-14
unfolding text node_name
returns-in-14 g c = subst (λ (l : List ℕ). g.S.Sink.took c.args.sink.now l c.put-in-14.new.self) (sym (ap node_name c.in-14.is)) c.put-in-14.ensures

pub put-requires-in-15 : goal.put-requires-in-15
unfolding text node_name
put-requires-in-15 g c = subst (λ (l : List ℕ). g.S.Sink.fits c.args.sink.now (length l)) (ap node_name c.in-15.is) c.requires

pub returns-in-15 : goal.returns-in-15
unfolding text node_name
returns-in-15 g c = subst (λ (l : List ℕ). g.S.Sink.took c.args.sink.now l c.put-in-15.new.self) (sym (ap node_name c.in-15.is)) c.put-in-15.ensures

pub put-requires-in-16 : goal.put-requires-in-16
unfolding text node_name
put-requires-in-16 g c = subst (λ (l : List ℕ). g.S.Sink.fits c.args.sink.now (length l)) (ap node_name c.in-16.is) c.requires

pub returns-in-16 : goal.returns-in-16
unfolding text node_name
returns-in-16 g c = subst (λ (l : List ℕ). g.S.Sink.took c.args.sink.now l c.put-in-16.new.self) (sym (ap node_name c.in-16.is)) c.put-in-16.ensures

pub put-requires-in-17 : goal.put-requires-in-17
unfolding text node_name
put-requires-in-17 g c = subst (λ (l : List ℕ). g.S.Sink.fits c.args.sink.now (length l)) (ap node_name c.in-17.is) c.requires

pub returns-in-17 : goal.returns-in-17
unfolding text node_name
returns-in-17 g c = subst (λ (l : List ℕ). g.S.Sink.took c.args.sink.now l c.put-in-17.new.self) (sym (ap node_name c.in-17.is)) c.put-in-17.ensures

pub put-requires-in-18 : goal.put-requires-in-18
unfolding text node_name
put-requires-in-18 g c = subst (λ (l : List ℕ). g.S.Sink.fits c.args.sink.now (length l)) (ap node_name c.in-18.is) c.requires

pub returns-in-18 : goal.returns-in-18
unfolding text node_name
returns-in-18 g c = subst (λ (l : List ℕ). g.S.Sink.took c.args.sink.now l c.put-in-18.new.self) (sym (ap node_name c.in-18.is)) c.put-in-18.ensures

pub put-requires-in-19 : goal.put-requires-in-19
unfolding text node_name
put-requires-in-19 g c = subst (λ (l : List ℕ). g.S.Sink.fits c.args.sink.now (length l)) (ap node_name c.in-19.is) c.requires

pub returns-in-19 : goal.returns-in-19
unfolding text node_name
returns-in-19 g c = subst (λ (l : List ℕ). g.S.Sink.took c.args.sink.now l c.put-in-19.new.self) (sym (ap node_name c.in-19.is)) c.put-in-19.ensures

pub put-requires-in-20 : goal.put-requires-in-20
unfolding text node_name
put-requires-in-20 g c = subst (λ (l : List ℕ). g.S.Sink.fits c.args.sink.now (length l)) (ap node_name c.in-20.is) c.requires

pub returns-in-20 : goal.returns-in-20
unfolding text node_name
returns-in-20 g c = subst (λ (l : List ℕ). g.S.Sink.took c.args.sink.now l c.put-in-20.new.self) (sym (ap node_name c.in-20.is)) c.put-in-20.ensures

pub put-requires-in-21 : goal.put-requires-in-21
unfolding text node_name
put-requires-in-21 g c = subst (λ (l : List ℕ). g.S.Sink.fits c.args.sink.now (length l)) (ap node_name c.in-21.is) c.requires

pub returns-in-21 : goal.returns-in-21
unfolding text node_name
returns-in-21 g c = subst (λ (l : List ℕ). g.S.Sink.took c.args.sink.now l c.put-in-21.new.self) (sym (ap node_name c.in-21.is)) c.put-in-21.ensures

pub returns-in_default : goal.returns-in_default
returns-in_default g c = subst (λ (l : List ℕ). g.S.Sink.took c.args.sink.now l c.args.sink.now) (sym (no_node c.args.node (λ h. omega arith))) (g.met.S.Sink.laws.none c.args.sink.now)
