use Rattle.std.proofs.Common.{ℕ, List, [], ◌++◌, length, sym, ap, ◌∙◌, subst, arith}
use Rattle.sinks.proofs.PutLaws.{part-start, part-room, part-next, part-end}
use Rattle.entries.specs.Text.{text}
use Rattle.entries.specs.Entries.{node_name, atom_name, head_of}
use Rattle.std.proofs.lemmas.List.{append-nil}
use Rattle.entries.proofs.EntryLaws.{head-inline, head-atom, head-enter, head-exit}
use Rattle.entries.proofs.put_head.Goals as goal

pub put-requires : goal.put-requires
unfolding text
put-requires g c = subst (λ (l : List ℕ). g.S.Sink.fits c.args.sink.now (length l)) (head-inline c.args.x c.in-3.is) c.requires

pub returns-in-3 : goal.returns-in-3
unfolding text
returns-in-3 g c = subst (λ (l : List ℕ). g.S.Sink.took c.args.sink.now l c.put.new.self) (sym (head-inline c.args.x c.in-3.is)) c.put.ensures

pub put-requires-in-4 : goal.put-requires-in-4
unfolding text
put-requires-in-4 g c =
    let l = g.met.S.Sink.laws in
    let n = atom_name c.args.x.node in
    let p0 = part-start l c.args.sink.now (head_of c.args.x) (text "A " ++ (n ++ [])) (ap (λ (k : List ℕ). text "A " ++ k) (append-nil n) ∙ sym (head-atom c.args.x (λ e. omega arith) c.in-4.is)) c.requires in
    part-room l (text "A ") (n ++ []) p0

pub put_atom-requires : goal.put_atom-requires
unfolding text
put_atom-requires g c =
    let l = g.met.S.Sink.laws in
    let n = atom_name c.args.x.node in
    let p0 = part-start l c.args.sink.now (head_of c.args.x) (text "A " ++ (n ++ [])) (ap (λ (k : List ℕ). text "A " ++ k) (append-nil n) ∙ sym (head-atom c.args.x (λ e. omega arith) c.in-4.is)) c.requires in
    let p1 = part-next l (text "A ") (n ++ []) p0 c.put-in-4.ensures in
    part-room l n [] p1

pub returns-in-4 : goal.returns-in-4
unfolding text
returns-in-4 g c =
    let l = g.met.S.Sink.laws in
    let n = atom_name c.args.x.node in
    let p0 = part-start l c.args.sink.now (head_of c.args.x) (text "A " ++ (n ++ [])) (ap (λ (k : List ℕ). text "A " ++ k) (append-nil n) ∙ sym (head-atom c.args.x (λ e. omega arith) c.in-4.is)) c.requires in
    let p1 = part-next l (text "A ") (n ++ []) p0 c.put-in-4.ensures in
    let p2 = part-next l n [] p1 c.put_atom.ensures in
    part-end l p2

pub put-requires-in-1 : goal.put-requires-in-1
unfolding text
put-requires-in-1 g c =
    let l = g.met.S.Sink.laws in
    let n = node_name c.args.x.node in
    let p0 = part-start l c.args.sink.now (head_of c.args.x) (text "E " ++ (n ++ [])) (ap (λ (k : List ℕ). text "E " ++ k) (append-nil n) ∙ sym (head-enter c.args.x (λ e. omega arith) (λ e. omega arith) c.in-1.is)) c.requires in
    part-room l (text "E ") (n ++ []) p0

pub put_node-requires : goal.put_node-requires
unfolding text
put_node-requires g c =
    let l = g.met.S.Sink.laws in
    let n = node_name c.args.x.node in
    let p0 = part-start l c.args.sink.now (head_of c.args.x) (text "E " ++ (n ++ [])) (ap (λ (k : List ℕ). text "E " ++ k) (append-nil n) ∙ sym (head-enter c.args.x (λ e. omega arith) (λ e. omega arith) c.in-1.is)) c.requires in
    let p1 = part-next l (text "E ") (n ++ []) p0 c.put-in-1.ensures in
    part-room l n [] p1

pub returns-in-1 : goal.returns-in-1
unfolding text
returns-in-1 g c =
    let l = g.met.S.Sink.laws in
    let n = node_name c.args.x.node in
    let p0 = part-start l c.args.sink.now (head_of c.args.x) (text "E " ++ (n ++ [])) (ap (λ (k : List ℕ). text "E " ++ k) (append-nil n) ∙ sym (head-enter c.args.x (λ e. omega arith) (λ e. omega arith) c.in-1.is)) c.requires in
    let p1 = part-next l (text "E ") (n ++ []) p0 c.put-in-1.ensures in
    let p2 = part-next l n [] p1 c.put_node.ensures in
    part-end l p2

pub put-requires-in_default : goal.put-requires-in_default
unfolding text
put-requires-in_default g c =
    let l = g.met.S.Sink.laws in
    let n = node_name c.args.x.node in
    let p0 = part-start l c.args.sink.now (head_of c.args.x) (text "X " ++ (n ++ [])) (ap (λ (k : List ℕ). text "X " ++ k) (append-nil n) ∙ sym (head-exit c.args.x (λ e. omega arith) (λ e. omega arith) (λ e. omega arith))) c.requires in
    part-room l (text "X ") (n ++ []) p0

pub put_node-requires-in_default : goal.put_node-requires-in_default
unfolding text
put_node-requires-in_default g c =
    let l = g.met.S.Sink.laws in
    let n = node_name c.args.x.node in
    let p0 = part-start l c.args.sink.now (head_of c.args.x) (text "X " ++ (n ++ [])) (ap (λ (k : List ℕ). text "X " ++ k) (append-nil n) ∙ sym (head-exit c.args.x (λ e. omega arith) (λ e. omega arith) (λ e. omega arith))) c.requires in
    let p1 = part-next l (text "X ") (n ++ []) p0 c.put-in_default.ensures in
    part-room l n [] p1

pub returns-in_default : goal.returns-in_default
unfolding text
returns-in_default g c =
    let l = g.met.S.Sink.laws in
    let n = node_name c.args.x.node in
    let p0 = part-start l c.args.sink.now (head_of c.args.x) (text "X " ++ (n ++ [])) (ap (λ (k : List ℕ). text "X " ++ k) (append-nil n) ∙ sym (head-exit c.args.x (λ e. omega arith) (λ e. omega arith) (λ e. omega arith))) c.requires in
    let p1 = part-next l (text "X ") (n ++ []) p0 c.put-in_default.ensures in
    let p2 = part-next l n [] p1 c.put_node-in_default.ensures in
    part-end l p2
