use Rattle.lists.proofs.ListLaws.{other_word, same_word}
use Rattle.lists.proofs.same_type.Goals as goal

pub returns-then-type_word : goal.returns-then-type_word
returns-then-type_word c = other_word c.args.a c.args.b _ _ c.type_word.ensures c.type_word-2.ensures c.if-type_word.true

pub returns : goal.returns
returns c = same_word c.args.a c.args.b _ _ c.type_word.ensures c.type_word-2.ensures c.if-type_word.false _ _ c.type_value.ensures c.type_value-2.ensures
