use Rattle.std.proofs.Common.{arith, ◌≡◌, List, ℕ, ◌++◌, [], ◌∷◌, length, length-append, sym, ◌∙◌, ap, subst, refl, ◌≤◌, ◌+◌, true, false, true≢false}
use borrow.Author.Tests.{eqb-true, eqb-false}
use Rattle.std.specs.Prelude.{Ok}
use Rattle.sets.specs.Words.{spanned_as}
use Rattle.joins.specs.View.{added}
use Rattle.joins.proofs.PutLaws.{added_none, added-first, added_more, piece-room, piece_full}
use Rattle.joins.proofs.Joining.put_piece.Goals.{then-n-eq0, else-n-eq0}
use Rattle.joins.proofs.Joining.put_piece.Goals as goal

pub returns-then-is_empty : goal.returns-then-is_empty
returns-then-is_empty g c =
    let j = c.args.self.now in
    let s = c.part-s.result.now in
    let d = piece-room j.bytes.now j.glue.now j.room c.args.n (spanned_as c.args.p) s [] c.part-s.ensures (added_none j.glue.now c.args.n s (eqb-true (length s) 0 (sym c.if-is_empty.ensures))) (omega (arith, c.requires.within)) in
    let e : c.args.n + 0 ≡ c.args.n = omega arith in
    record { value = ap Ok (sym e) ∙ d.0; put = subst (λ (x : List ℕ). g.S.Sink.took c.args.to.now x c.args.to.now) d.1 (g.met.S.Sink.laws.none c.args.to.now) }

pub returns-then-self-n-clause-value : goal.returns-then-self-n-clause-value
returns-then-self-n-clause-value g c =
    let j = c.args.self.now in
    let s = c.part-s.result.now in
    let m = eqb-false (length s) 0 (sym c.if-is_empty.ensures) in
    let e : added j.glue.now c.args.n s ≡ c.if-n-eq0.glue.now ++ s =
    elim c.if-n-eq0.branch [ then-n-eq0 w ↦ rw w.glue-is (added-first j.glue.now c.args.n s m w.if-n-eq0.true) | else-n-eq0 w ↦ rw w.glue-is (added_more j.glue.now c.args.n s m w.if-n-eq0.false) ] in
    piece_full j.bytes.now j.glue.now j.room c.args.n (spanned_as c.args.p) s _ c.part-s.ensures e (omega (arith, length-append c.if-n-eq0.glue.now s, c.if-self-n.true, c.requires.within))

pub returns : goal.returns
returns g c =
    let j = c.args.self.now in
    let s = c.part-s.result.now in
    let t = c.if-n-eq0.glue.now in
    let m = eqb-false (length s) 0 (sym c.if-is_empty.ensures) in
    let e : added j.glue.now c.args.n s ≡ t ++ s =
    elim c.if-n-eq0.branch [ then-n-eq0 w ↦ rw w.glue-is (added-first j.glue.now c.args.n s m w.if-n-eq0.true) | else-n-eq0 w ↦ rw w.glue-is (added_more j.glue.now c.args.n s m w.if-n-eq0.false) ] in
    let d = piece-room j.bytes.now j.glue.now j.room c.args.n (spanned_as c.args.p) s (t ++ s) c.part-s.ensures e (omega (arith, length-append t s, c.if-self-n.false, c.requires.within)) in
    let k : c.args.n + length t + length s ≡ c.args.n + length (t ++ s) = omega (arith, length-append t s) in
    record { value = ap Ok k ∙ d.0; put = subst (λ (x : List ℕ). g.S.Sink.took c.args.to.now x c.put-2.new.self) d.1 (g.met.S.Sink.laws.more c.args.to.now c.put.new.self c.put-2.new.self t s c.put.ensures c.put-2.ensures) }
