-- What the code's state and the lent words stand for. Assumes nothing.
use Rattle.std.specs.Prelude.{ℕ, ◌*◌, ◌≤◌, ◌≡◌, List, length, take}
use Rattle.events.specs.Names.{most, deepest, list_width, list_room}
use Rattle.events.specs.State.{State}
use Rattle.events.specs.declared.St.{St}

-- e: event words, k: the stack of open events, l: open lists, v: levels of sections
abbrev pub view : St → List ℕ → List ℕ → List ℕ → List ℕ → State
view s e k l v = record {
  cap = length e;
  evs = take s.words e;
  opn = take s.depth k;
  lst = take (s.lists * list_width) l;
  sec = take s.sections v;
  attr = s.attr;
  blank = s.blank;
  loose = s.loose;
  spare = s.spare;
  looks = s.looks;
  at = s.at;
  number = s.number;
}

-- the words written and the open events lie within what was lent
pub record Fits (s : St) (e k : List ℕ) : Type 0 where
  pub words : s.words ≤ length e
  pub depth : s.depth ≤ length k
  pub room : most ≤ length k

-- the open lists and sections lie within what was lent
pub record Stacks (s : St) (l v : List ℕ) : Type 0 where
  pub lists : s.lists * list_width ≤ length l
  pub listroom : list_room ≤ length l
  pub sections : s.sections ≤ length v
  pub levels : deepest ≤ length v

-- the open lists and sections are as they were
pub record Kept (s r : St) : Type 0 where
  pub lists : r.lists ≡ s.lists
  pub sections : r.sections ≡ s.sections

-- all but the events is as it was
pub record Same (s r : St) : Type 0 where
  pub depth : r.depth ≡ s.depth
  pub lists : r.lists ≡ s.lists
  pub sections : r.sections ≡ s.sections
