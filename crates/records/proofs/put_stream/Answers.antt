use Rattle.std.proofs.Common.{◌≡◌, true, ℕ, List, length, refl, sym, ap, ◌∙◌, subst, arith}
use Rattle.sinks.specs.Sinks.{fills, has_filled, fill_laws}
use Rattle.events.specs.Pack.{live_of, all_of}
use Rattle.events.proofs.PackLaws.{rest_of, rest-start}
use Rattle.events.proofs.EachLaws.{came, none-left}
use Rattle.records.specs.Records.{all_listed}
use Rattle.records.proofs.PutEach.{PutEach, each-start, each-room, each-turn, each-none, each-end}
use Rattle.records.proofs.WriteLaws.{piece, pieces-stream, piece-stale, piece-live, listed-stale, listed-live, record-size}
use Rattle.records.proofs.put_stream.Goals as goal

pub loop-x-init : goal.loop-x-init
loop-x-init c =
    let e = c.into_iter-x-iterator.ensures.into_iter_gives in
    let n = ap (λ s. s.next) e ∙ c.in_turn-x-items.ensures.first in
    let w = c.args.words.now in
    record {
      same_words = ap (λ s. s.words.now) e ∙ c.in_turn-x-items.ensures.words;
      listed = subst (λ (i : ℕ). all_listed (live_of (rest_of w i)) ≡ true) (sym n) (subst (λ xs. all_listed (live_of xs) ≡ true) (sym (rest-start w)) c.requires.listed);
      put = subst (λ (i : ℕ). PutEach fills has_filled piece w c.args.sink.now i c.args.sink.now) (sym n)
          (each-start fill_laws piece w _ (subst (λ (l : List ℕ). fills c.args.sink.now (length l)) (sym (pieces-stream (all_of w))) c.requires.fits));
    }

pub put_record-requires : goal.put_record-requires
put_record-requires c =
    let l = c.loop-x in
    let w = c.args.words.now in
    let t = came w l.x-iterator c.next.new.self l.invariant.same_words c.in-Some.field-0-0 c.in-Some.x c.in-Some.ensures.steps in
    let p = subst (λ (i : ℕ). PutEach fills has_filled piece w c.args.sink.now i l.sink) t.index l.invariant.put in
    let q = subst (λ (i : ℕ). all_listed (live_of (rest_of w i)) ≡ true) t.index l.invariant.listed in
    let s = sym c.is_stale.ensures ∙ c.if-not-is_stale.true in
    record {
      listed = (listed-live w _ t.some _ t.event q s).0;
      fits = subst (fills l.sink) (ap length (piece-live c.in-Some.x s) ∙ record-size c.in-Some.x) (each-room fill_laws piece w p t.some _ t.event);
    }

pub loop-x-preserved-then-not-is_stale : goal.loop-x-preserved-then-not-is_stale
loop-x-preserved-then-not-is_stale c =
    let l = c.loop-x in
    let w = c.args.words.now in
    let t = came w l.x-iterator c.next.new.self l.invariant.same_words c.in-Some.field-0-0 c.in-Some.x c.in-Some.ensures.steps in
    let p = subst (λ (i : ℕ). PutEach fills has_filled piece w c.args.sink.now i l.sink) t.index l.invariant.put in
    let q = subst (λ (i : ℕ). all_listed (live_of (rest_of w i)) ≡ true) t.index l.invariant.listed in
    let s = sym c.is_stale.ensures ∙ c.if-not-is_stale.true in
    record {
      same_words = t.same;
      listed = subst (λ (i : ℕ). all_listed (live_of (rest_of w i)) ≡ true) (sym t.next) (listed-live w _ t.some _ t.event q s).1;
      put = subst (λ (i : ℕ). PutEach fills has_filled piece w c.args.sink.now i c.put_record.new.sink) (sym t.next)
          (each-turn fill_laws piece w p t.some _ t.event (subst (λ (b : List ℕ). has_filled l.sink b c.put_record.new.sink) (sym (piece-live c.in-Some.x s)) c.put_record.ensures));
    }

pub loop-x-preserved : goal.loop-x-preserved
loop-x-preserved c =
    let l = c.loop-x in
    let w = c.args.words.now in
    let t = came w l.x-iterator c.next.new.self l.invariant.same_words c.in-Some.field-0-0 c.in-Some.x c.in-Some.ensures.steps in
    let p = subst (λ (i : ℕ). PutEach fills has_filled piece w c.args.sink.now i l.sink) t.index l.invariant.put in
    let q = subst (λ (i : ℕ). all_listed (live_of (rest_of w i)) ≡ true) t.index l.invariant.listed in
    let s = sym c.is_stale.ensures ∙ c.if-not-is_stale.false in
    record {
      same_words = t.same;
      listed = subst (λ (i : ℕ). all_listed (live_of (rest_of w i)) ≡ true) (sym t.next) (listed-stale w _ t.some _ t.event q s);
      put = subst (λ (i : ℕ). PutEach fills has_filled piece w c.args.sink.now i l.sink) (sym t.next)
          (each-none fill_laws piece w p t.some _ t.event (piece-stale c.in-Some.x s));
    }

pub returns : goal.returns
returns c =
    let l = c.loop-x in
    let w = c.args.words.now in
    let h = none-left w l.x-iterator c.next.new.self l.invariant.same_words c.in-None.ensures.steps in
    subst (λ (b : List ℕ). has_filled c.args.sink.now b l.sink) (pieces-stream (all_of w)) (each-end fill_laws piece w l.invariant.put h)
