use Rattle.std.proofs.Common.{◌≡◌, ℕ, List, length, sym, ap, ◌∙◌, subst}
use Rattle.events.specs.Pack.{all_of}
use Rattle.events.proofs.EachLaws.{came, none-left}
use Rattle.records.proofs.PutEach.{PutEach, each-start, each-room, each-turn, each-end}
use Rattle.listing.specs.Listing.{line_in}
use Rattle.listing.specs.Modes.{mode_num}
use Rattle.listing.proofs.ModeLaws.{lines-each}
use Rattle.listing.proofs.put_lines.Goals as goal

pub loop-x-init : goal.loop-x-init
loop-x-init g c =
    let e = c.into_iter-x-iterator.ensures.into_iter_gives in
    let w = c.args.words.now in
    let f = line_in (mode_num c.args.mode) in
    record {
      same_words = ap (λ s. s.words.now) e ∙ c.in_turn-x-items.ensures.words;
      put = subst (λ (i : ℕ). PutEach g.S.Sink.fits g.S.Sink.took f w c.args.sink.now i c.args.sink.now) (sym (ap (λ s. s.next) e ∙ c.in_turn-x-items.ensures.first))
          (each-start g.met.S.Sink.laws f w _ (subst (λ (l : List ℕ). g.S.Sink.fits c.args.sink.now (length l)) (sym (lines-each (mode_num c.args.mode) (all_of w))) c.requires));
    }

pub put_in-requires : goal.put_in-requires
put_in-requires g c =
    let l = c.loop-x in
    let w = c.args.words.now in
    let f = line_in (mode_num c.args.mode) in
    let t = came w l.x-iterator c.next.new.self l.invariant.same_words c.in-Some.field-0-0 c.in-Some.x c.in-Some.ensures.steps in
    let p = subst (λ (i : ℕ). PutEach g.S.Sink.fits g.S.Sink.took f w c.args.sink.now i l.sink) t.index l.invariant.put in
    each-room g.met.S.Sink.laws f w p t.some _ t.event

pub loop-x-preserved : goal.loop-x-preserved
loop-x-preserved g c =
    let l = c.loop-x in
    let w = c.args.words.now in
    let f = line_in (mode_num c.args.mode) in
    let t = came w l.x-iterator c.next.new.self l.invariant.same_words c.in-Some.field-0-0 c.in-Some.x c.in-Some.ensures.steps in
    let p = subst (λ (i : ℕ). PutEach g.S.Sink.fits g.S.Sink.took f w c.args.sink.now i l.sink) t.index l.invariant.put in
    record {
      same_words = t.same;
      put = subst (λ (i : ℕ). PutEach g.S.Sink.fits g.S.Sink.took f w c.args.sink.now i c.put_in.new.sink) (sym t.next)
          (each-turn g.met.S.Sink.laws f w p t.some _ t.event c.put_in.ensures);
    }

pub returns : goal.returns
returns g c =
    let l = c.loop-x in
    let w = c.args.words.now in
    let h = none-left w l.x-iterator c.next.new.self l.invariant.same_words c.in-None.ensures.steps in
    subst (λ (b : List ℕ). g.S.Sink.took c.args.sink.now b l.sink) (lines-each (mode_num c.args.mode) (all_of w)) (each-end g.met.S.Sink.laws (line_in (mode_num c.args.mode)) w l.invariant.put h)
