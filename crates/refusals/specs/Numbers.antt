-- The number of each refusal, as the headers have it (RULES R3, N13, J12). Assumes nothing.
use Rattle.std.specs.Prelude.{ℕ}
use Rattle.refusals.specs.declared.Refusal.{Refusal}
use Rattle.refusals.specs.declared.Refusal.TheVariants.{TextTooLong, LinesFull, NestedTooDeep, TooManySections, HeadingTooLong, EventsFull, Fault, BytesFull, CutShort, NotListed, OutOfRange, BadNesting, ElementsFull, NotASet, Stray}

abbrev pub number_of : Refusal → ℕ
number_of TextTooLong = 1
number_of LinesFull = 2
number_of NestedTooDeep = 3
number_of TooManySections = 4
number_of HeadingTooLong = 5
number_of EventsFull = 6
number_of Fault = 7
number_of BytesFull = 8
number_of CutShort = 9
number_of NotListed = 10
number_of OutOfRange = 11
number_of BadNesting = 12
number_of ElementsFull = 13
number_of NotASet = 14
number_of Stray = 15
