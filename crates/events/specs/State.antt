-- The state of the walk, and a step that a refusal stops. Assumes nothing.
use Rattle.std.specs.Prelude.{ℕ, Bool, List, eqb}
use Rattle.classes.specs.Choice.{pick}

pub record State : Type 0 where
  -- event words lent, and those written
  pub cap : ℕ
  pub evs : List ℕ
  -- the words at which open events start, the innermost last
  pub opn : List ℕ
  -- open lists (`list_width` words each), the innermost last
  pub lst : List ℕ
  -- the levels of open sections (S2), the innermost last
  pub sec : List ℕ
  -- the word of the first of the Attributes just before (S4), plus one; 0: none
  pub attr : ℕ
  -- Blank and Loosened (T2)
  pub blank : Bool
  pub loose : Bool
  -- the least nesting (P1) left so far, and the looks (H16)
  pub spare : ℕ
  pub looks : ℕ
  -- the marker start of the innermost unfinished block, which is a refusal's position (R14); and the refusal, 0: none
  pub at : ℕ
  pub number : ℕ

abbrev pub with_evs : List ℕ → State → State
with_evs x s = record { cap = s.cap; evs = x; opn = s.opn; lst = s.lst; sec = s.sec; attr = s.attr; blank = s.blank; loose = s.loose; spare = s.spare; looks = s.looks; at = s.at; number = s.number }

abbrev pub with_opn : List ℕ → State → State
with_opn x s = record { cap = s.cap; evs = s.evs; opn = x; lst = s.lst; sec = s.sec; attr = s.attr; blank = s.blank; loose = s.loose; spare = s.spare; looks = s.looks; at = s.at; number = s.number }

abbrev pub with_lst : List ℕ → State → State
with_lst x s = record { cap = s.cap; evs = s.evs; opn = s.opn; lst = x; sec = s.sec; attr = s.attr; blank = s.blank; loose = s.loose; spare = s.spare; looks = s.looks; at = s.at; number = s.number }

abbrev pub with_sec : List ℕ → State → State
with_sec x s = record { cap = s.cap; evs = s.evs; opn = s.opn; lst = s.lst; sec = x; attr = s.attr; blank = s.blank; loose = s.loose; spare = s.spare; looks = s.looks; at = s.at; number = s.number }

abbrev pub with_attr : ℕ → State → State
with_attr x s = record { cap = s.cap; evs = s.evs; opn = s.opn; lst = s.lst; sec = s.sec; attr = x; blank = s.blank; loose = s.loose; spare = s.spare; looks = s.looks; at = s.at; number = s.number }

-- blank, then loose
abbrev pub with_flags : Bool → Bool → State → State
with_flags b l s = record { cap = s.cap; evs = s.evs; opn = s.opn; lst = s.lst; sec = s.sec; attr = s.attr; blank = b; loose = l; spare = s.spare; looks = s.looks; at = s.at; number = s.number }

abbrev pub with_spare : ℕ → State → State
with_spare x s = record { cap = s.cap; evs = s.evs; opn = s.opn; lst = s.lst; sec = s.sec; attr = s.attr; blank = s.blank; loose = s.loose; spare = x; looks = s.looks; at = s.at; number = s.number }

abbrev pub with_looks : ℕ → State → State
with_looks x s = record { cap = s.cap; evs = s.evs; opn = s.opn; lst = s.lst; sec = s.sec; attr = s.attr; blank = s.blank; loose = s.loose; spare = s.spare; looks = x; at = s.at; number = s.number }

abbrev pub with_at : ℕ → State → State
with_at x s = record { cap = s.cap; evs = s.evs; opn = s.opn; lst = s.lst; sec = s.sec; attr = s.attr; blank = s.blank; loose = s.loose; spare = s.spare; looks = s.looks; at = x; number = s.number }

abbrev pub refuse_of : ℕ → State → State
refuse_of n s = record { cap = s.cap; evs = s.evs; opn = s.opn; lst = s.lst; sec = s.sec; attr = s.attr; blank = s.blank; loose = s.loose; spare = s.spare; looks = s.looks; at = s.at; number = n }

-- the next step, unless the walk was refused (R13)
unfoldable pub go : State → (State → State) → State
go s f = pick (eqb s.number 0) (f s) s
