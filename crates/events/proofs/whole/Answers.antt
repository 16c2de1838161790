use native.Mathlib.Omega.{arith}
use Prim.Native.Nat.{◌-◌}
use borrow.Author.Tests.{ltb-true, leb-true}
use Rattle.events.proofs.EventLaws.{not-whole, is_whole}
use Rattle.events.proofs.whole.Goals as goal

pub returns-then-st-lt-WIDTH : goal.returns-then-st-lt-WIDTH
returns-then-st-lt-WIDTH c = (not-whole c.args.st c.args.o (omega arith), λ z. let w = ltb-true 1 0 z in omega arith)

pub returns : goal.returns
returns c = (is_whole c.args.st c.args.o c.if-st-lt-WIDTH.false, λ z. let w = leb-true c.args.o (c.args.st.words - 8) z in omega (arith, w, c.if-st-lt-WIDTH.false))
