-- What the last arm of a `match` knows of a kind's data. Assumes nothing.
use mathlib.Core.Path.{◌≡◌, refl}
use mathlib.Core.Bool.{false}
use mathlib.Core.List.{List, [], ◌∷◌}
use Prim.Native.Nat.{ℕ}
use denote.Enum.Declared.{tag_of}
use types.Run.{OneOf, miss}
use Rattle.kinds.specs.contracts.Kind.{the_type}
use Rattle.kinds.specs.declared.Kind.{Kind}
use Rattle.kinds.specs.declared.Kind.TheVariants.{Blankline, Attributes, ThematicBreak, Paragraph, Heading, Fenced, Definition, Blockquote, ListItem, Table}
use Rattle.markers.specs.declared.Marker.TheVariants.{Nothing}
use Rattle.walk.specs.Fields.{indent_of, from_of, to_of, closed_of, marker_in, is_container}

abbrev no_offsets : List ℕ
no_offsets = 0 ∷ 1 ∷ 2 ∷ 3 ∷ 4 ∷ 7 ∷ 9 ∷ []

abbrev no_label : List ℕ
no_label = 0 ∷ 1 ∷ 2 ∷ 3 ∷ 4 ∷ 7 ∷ 8 ∷ 9 ∷ []

abbrev no_fence : List ℕ
no_fence = 0 ∷ 1 ∷ 2 ∷ 3 ∷ 4 ∷ 6 ∷ 7 ∷ 8 ∷ 9 ∷ []

abbrev no_item : List ℕ
no_item = 0 ∷ 1 ∷ 2 ∷ 3 ∷ 4 ∷ 5 ∷ 6 ∷ 7 ∷ 9 ∷ []

abbrev no_container : List ℕ
no_container = 0 ∷ 1 ∷ 2 ∷ 3 ∷ 4 ∷ 9 ∷ []

pub indent-none : (k : Kind) → OneOf no_offsets (tag_of the_type k) → 0 ≡ indent_of k
indent-none Blankline h = refl
indent-none Attributes h = refl
indent-none ThematicBreak h = refl
indent-none Paragraph h = refl
indent-none (Heading l) h = refl
indent-none (Fenced i l m s c n) h = absurd (miss no_offsets 5 tt h)
indent-none (Definition i f s b) h = absurd (miss no_offsets 6 tt h)
indent-none Blockquote h = refl
indent-none (ListItem i m b) h = absurd (miss no_offsets 8 tt h)
indent-none (Table c b) h = refl

pub from-none : (k : Kind) → OneOf no_label (tag_of the_type k) → 0 ≡ from_of k
from-none Blankline h = refl
from-none Attributes h = refl
from-none ThematicBreak h = refl
from-none Paragraph h = refl
from-none (Heading l) h = refl
from-none (Fenced i l m s c n) h = absurd (miss no_label 5 tt h)
from-none (Definition i f s b) h = absurd (miss no_label 6 tt h)
from-none Blockquote h = refl
from-none (ListItem i m b) h = refl
from-none (Table c b) h = refl

pub to_none : (k : Kind) → OneOf no_label (tag_of the_type k) → 0 ≡ to_of k
to_none Blankline h = refl
to_none Attributes h = refl
to_none ThematicBreak h = refl
to_none Paragraph h = refl
to_none (Heading l) h = refl
to_none (Fenced i l m s c n) h = absurd (miss no_label 5 tt h)
to_none (Definition i f s b) h = absurd (miss no_label 6 tt h)
to_none Blockquote h = refl
to_none (ListItem i m b) h = refl
to_none (Table c b) h = refl

pub closed_none : (k : Kind) → OneOf no_fence (tag_of the_type k) → false ≡ closed_of k
closed_none Blankline h = refl
closed_none Attributes h = refl
closed_none ThematicBreak h = refl
closed_none Paragraph h = refl
closed_none (Heading l) h = refl
closed_none (Fenced i l m s c n) h = absurd (miss no_fence 5 tt h)
closed_none (Definition i f s b) h = refl
closed_none Blockquote h = refl
closed_none (ListItem i m b) h = refl
closed_none (Table c b) h = refl

pub marker-none : (k : Kind) → OneOf no_item (tag_of the_type k) → Nothing ≡ marker_in k
marker-none Blankline h = refl
marker-none Attributes h = refl
marker-none ThematicBreak h = refl
marker-none Paragraph h = refl
marker-none (Heading l) h = refl
marker-none (Fenced i l m s c n) h = refl
marker-none (Definition i f s b) h = refl
marker-none Blockquote h = refl
marker-none (ListItem i m b) h = absurd (miss no_item 8 tt h)
marker-none (Table c b) h = refl

pub container-none : (k : Kind) → OneOf no_container (tag_of the_type k) → false ≡ is_container k
container-none Blankline h = refl
container-none Attributes h = refl
container-none ThematicBreak h = refl
container-none Paragraph h = refl
container-none (Heading l) h = refl
container-none (Fenced i l m s c n) h = absurd (miss no_container 5 tt h)
container-none (Definition i f s b) h = absurd (miss no_container 6 tt h)
container-none Blockquote h = absurd (miss no_container 7 tt h)
container-none (ListItem i m b) h = absurd (miss no_container 8 tt h)
container-none (Table c b) h = refl
