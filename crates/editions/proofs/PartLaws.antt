-- The part as bytes of the text that it is a part of. Assumes nothing.
use mathlib.Core.Path.{◌≡◌, sym, ap, ◌∙◌}
use mathlib.Core.List.{List, ◌++◌, append-nil}
use Prim.Native.Nat.{ℕ}
use Rattle.trim.specs.Trim.{part_of}
use Rattle.editions.specs.Editions.{if_older, if_newer, older_part, newer_part, changed_part}
use Rattle.editions.specs.declared.Which.{Which}
use Rattle.editions.specs.declared.Which.TheVariants.{Older, Newer}
use Rattle.editions.specs.declared.Change.{Change}

module _ (text : List ℕ) (c : Change) where
  pub older-yes : c.which ≡ Older → part_of text c.start c.end ≡ older_part text c
  unfolding older_part
  older-yes e = sym (ap (λ (w : Which). if_older w (part_of text c.start c.end)) e)

  pub older-no : c.which ≡ Newer → part_of text 0 0 ≡ older_part text c
  unfolding older_part part_of
  older-no e = sym (ap (λ (w : Which). if_older w (part_of text c.start c.end)) e)

  pub newer-no : c.which ≡ Older → part_of text 0 0 ≡ newer_part text c
  unfolding newer_part part_of
  newer-no e = sym (ap (λ (w : Which). if_newer w (part_of text c.start c.end)) e)

  pub newer-yes : c.which ≡ Newer → part_of text c.start c.end ≡ newer_part text c
  unfolding newer_part
  newer-yes e = sym (ap (λ (w : Which). if_newer w (part_of text c.start c.end)) e)

-- the other text's part is empty
module _ (older newer : List ℕ) (c : Change) where
  pub changed-older : c.which ≡ Older → older_part older c ≡ changed_part older newer c
  unfolding changed_part part_of
  changed-older e = sym (append-nil (older_part older c)) ∙ ap (λ (l : List ℕ). older_part older c ++ l) (newer-no newer c e)

  pub changed-newer : c.which ≡ Newer → newer_part newer c ≡ changed_part older newer c
  unfolding changed_part part_of
  changed-newer e = ap (λ (l : List ℕ). l ++ newer_part newer c) (older-no older c e)
