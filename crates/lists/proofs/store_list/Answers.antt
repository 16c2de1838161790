use native.Mathlib.Omega.{arith}
use lib.ListN.{length-set}
use Rattle.lists.proofs.ListLaws.{list-words}
use Rattle.lists.proofs.store_list.Goals as goal

pub bounds-lists-i-2 : goal.bounds-lists-i-2
bounds-lists-i-2 c = simp length-set (omega arith)

pub bounds-lists-i-3 : goal.bounds-lists-i-3
bounds-lists-i-3 c = simp length-set (omega arith)

pub bounds-lists-i-4 : goal.bounds-lists-i-4
bounds-lists-i-4 c = simp length-set (omega arith)

pub bounds-lists-i-5 : goal.bounds-lists-i-5
bounds-lists-i-5 c = simp length-set (omega arith)

pub returns : goal.returns
returns c = list-words c.args.lists.now c.args.i c.args.o _ _ _ _ c.type_word.ensures c.type_value.ensures c.type_word-2.ensures c.type_value-2.ensures
