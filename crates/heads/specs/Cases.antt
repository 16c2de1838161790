-- Files with the line and without, computed by the definitions. Assumes nothing.
use Rattle.std.specs.Prelude.{◌≡◌, refl, []}
use Rattle.entries.specs.Text.{text}
use Rattle.equals.specs.Same.{same}
use Rattle.listing.specs.Listing.{short, full}
use Rattle.heads.specs.Heads.{asks_full, mode_of, text_of}

-- the line is exactly `full`, and it alone is taken off (V12, V13)
pub with-line :
    (text_of (text "full\n# a\n") ≡ text "# a\n")
    × (text_of (text "full\n") ≡ [])
    × (text_of (text "full") ≡ [])
    × (text_of (text "full\nfull\n") ≡ text "full\n")
    × (mode_of (text "full") ≡ full)
    × (mode_of (text "full\na") ≡ full)
unfolding text same asks_full mode_of text_of
with-line = (refl, refl, refl, refl, refl, refl)

-- else all is text (V12): another word, a carriage return, a space, a line that is not the first, a part of the word
pub without-line :
    (text_of (text "fullx\n") ≡ text "fullx\n")
    × (text_of (text "full\r\n") ≡ text "full\r\n")
    × (text_of (text "full \n") ≡ text "full \n")
    × (text_of (text "\nfull\n") ≡ text "\nfull\n")
    × (text_of (text "Full\n") ≡ text "Full\n")
    × (text_of (text "ful") ≡ text "ful")
    × (text_of [] ≡ [])
    × (mode_of (text "fullx") ≡ short)
    × (mode_of [] ≡ short)
unfolding text same asks_full mode_of text_of
without-line = (refl, refl, refl, refl, refl, refl, refl, refl, refl)
