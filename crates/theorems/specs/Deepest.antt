-- How deep containers nest in a text (RULES P1), for the bound on looks (H18). Assumes nothing.
use Rattle.std.specs.Prelude.{List, ℕ, ◌-◌}
use Rattle.walk.specs.Document.{start, document_of}
use Rattle.walk.specs.declared.Limits.{Limits}

-- how many containers were around a place at most: the limit, without the least nesting that was left (P1)
unfoldable pub deepest_of : List ℕ → Limits → ℕ → ℕ
deepest_of text lim cap = lim.nesting - (document_of text lim (start cap lim.nesting)).spare
