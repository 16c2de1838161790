use Rattle.std.proofs.Common.{ℕ, ◌/◌, List, length, refl, sym, ap, ◌∙◌, subst, arith, length-append}
use Rattle.entries.specs.Text.{decimal_of}
use Rattle.entries.proofs.NumberLaws.{decimal-one, decimal-two, decimal-three, decimal-more}
use Rattle.entries.proofs.+put_number.Goals as goal

pub put-requires : goal.put-requires
put-requires g t c = subst (g.S.Sink.fits c.args.sink.now) (ap length (decimal-one c.args.x c.if-x-lt10.true _ refl)) c.requires

pub returns-then-x-lt10 : goal.returns-then-x-lt10
returns-then-x-lt10 g t c = subst (λ (l : List ℕ). g.S.Sink.took c.args.sink.now l c.put.new.self) (sym (decimal-one c.args.x c.if-x-lt10.true _ c.digit.ensures)) c.put.ensures

pub put-requires-then-x-lt100 : goal.put-requires-then-x-lt100
put-requires-then-x-lt100 g t c = subst (g.S.Sink.fits c.args.sink.now) (ap length (decimal-two c.args.x (omega arith) c.if-x-lt100.true _ _ refl refl)) c.requires

pub returns-then-x-lt100 : goal.returns-then-x-lt100
returns-then-x-lt100 g t c =
    subst (λ (l : List ℕ). g.S.Sink.took c.args.sink.now l c.put-then-x-lt100.new.self)
    (sym (decimal-two c.args.x (omega arith) c.if-x-lt100.true _ _ c.digit-then-x-lt100.ensures c.digit-then-x-lt100-2.ensures)) c.put-then-x-lt100.ensures

pub put_number-requires : goal.put_number-requires
put_number-requires g t c κs within =
    let x = c.args.x in
    let e = ap length (decimal-more x c.if-x-gt999.true c.ranges.x.fits _ _ _ refl refl refl) ∙ length-append (decimal_of (x / 1000)) _ in
    (omega (arith, c.decreases, c.if-x-gt999.true), (within, g.met.S.Sink.laws.less c.args.sink.now _ _ c.requires (omega (arith, e))))

pub put-requires-then-x-gt999 : goal.put-requires-then-x-gt999
put-requires-then-x-gt999 g t c =
    let e = decimal-more c.args.x c.if-x-gt999.true c.ranges.x.fits _ _ _ refl refl refl in
    let f = ap length e ∙ length-append (decimal_of (c.args.x / 1000)) _ in
    g.met.S.Sink.laws.left c.args.sink.now _ (decimal_of (c.args.x / 1000)) 3 c.put_number.ensures (g.met.S.Sink.laws.less c.args.sink.now _ _ c.requires (omega (arith, f)))

pub returns-then-x-gt999 : goal.returns-then-x-gt999
returns-then-x-gt999 g t c =
    subst (λ (l : List ℕ). g.S.Sink.took c.args.sink.now l c.put-then-x-gt999.new.self)
    (sym (decimal-more c.args.x c.if-x-gt999.true c.ranges.x.fits _ _ _ c.digit-then-x-gt999.ensures c.digit-then-x-gt999-2.ensures c.digit-then-x-gt999-3.ensures))
    (g.met.S.Sink.laws.more c.args.sink.now _ c.put-then-x-gt999.new.self _ _ c.put_number.ensures c.put-then-x-gt999.ensures)

pub put-requires-2 : goal.put-requires-2
put-requires-2 g t c = subst (g.S.Sink.fits c.args.sink.now) (ap length (decimal-three c.args.x (omega arith) (omega arith) _ _ _ refl refl refl)) c.requires

pub returns : goal.returns
returns g t c =
    subst (λ (l : List ℕ). g.S.Sink.took c.args.sink.now l c.put-2.new.self)
    (sym (decimal-three c.args.x (omega arith) (omega arith) _ _ _ c.digit-2.ensures c.digit-3.ensures c.digit-4.ensures)) c.put-2.ensures
