-- The whole walk: the Document, its blocks and the final closings (RULES E11, O4, O5, R16, S6). Assumes nothing.
use Rattle.std.specs.Prelude.{true, false, List, [], ℕ, zero, suc, ◌/◌, length}
use Rattle.lines.specs.Lines.{lines_of}
use Rattle.events.specs.Names.{document_node, list_width}
use Rattle.events.specs.State.{State, with_at, go}
use Rattle.events.specs.Events.{enter_of, exit_of}
use Rattle.lists.specs.Lists.{close_list_of}
use Rattle.walk.specs.Leaf.{node}
use Rattle.walk.specs.Tree.{blocks_at}
use Rattle.walk.specs.declared.Limits.{Limits}

-- nothing open, Blank and Loosened unset (T2)
abbrev pub start : ℕ → ℕ → State
start cap nesting = record { cap = cap; evs = []; opn = []; lst = []; sec = []; attr = 0; blank = false; loose = false; spare = nesting; looks = 0; at = 0; number = 0 }

-- the lists still open end at pos, then the sections (O4, S6)
unfoldable pub close_lists : ℕ → ℕ → State → State
close_lists pos zero s = s
close_lists pos (suc n) s = go (close_list_of pos s) (close_lists pos n)

unfoldable pub close_sections : ℕ → ℕ → State → State
close_sections pos zero s = s
close_sections pos (suc n) s = go (exit_of pos pos s) (close_sections pos n)

-- the final closings: lists, sections, the Document; a refusal's position is here the text's length (R16, S6, O5)
unfoldable pub close_all : ℕ → State → State
close_all e s =
    go (close_lists e (length s.lst / list_width) (with_at e s)) (λ a.
    go (close_sections e (length a.sec) a) (exit_of e e))

-- Document, its blocks, and the final closings (E11, O5)
unfoldable pub document_of : List ℕ → Limits → State → State
document_of text lim s =
    go (enter_of (node document_node 0 0 0 0 0 0) s) (λ a.
    go (blocks_at text lim lim.nesting true (lines_of text) a) (close_all (length text)))
