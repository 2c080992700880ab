-- The items of words that are an expression.
use Rattle.std.specs.Prelude.{List, map}
use Rattle.expression.specs.declared.item.Item.{Item}
use Rattle.expression.specs.declared.shape.Expression.{Expression}
use Rattle.expression.specs.Words.{item_of}

abbrev pub items : Expression → List Item
items e = map item_of e.words.now
