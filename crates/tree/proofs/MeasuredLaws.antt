-- What measuring a block keeps: how many lines it takes, and that its offsets fit the words of an event. Assumes nothing.
use mathlib.Core.Path.{◌≡◌, refl}
use mathlib.Core.Bool.{Bool, true, false}
use mathlib.Core.List.{List, [], ◌∷◌}
use Prim.Native.Nat.{ℕ, ◌+◌, ◌^◌, ◌≤◌, ◌<◌}
use native.Mathlib.Omega.{arith}
use lib.Dec.{eqb}
use lib.ListN.{length}
use Rattle.classes.specs.Choice.{pick}
use Rattle.lines.specs.Lines.{Span}
use Rattle.trim.specs.Trim.{trim_both}
use Rattle.trim.proofs.TrimLaws.{part_length}
use Rattle.kinds.specs.Identify.{identify_of}
use Rattle.kinds.specs.declared.Kind.{Kind}
use Rattle.kinds.specs.declared.Kind.TheVariants.{Blankline, Attributes, ThematicBreak, Paragraph, Heading, Fenced, Definition, Blockquote, ListItem, Table}
use Rattle.measure.specs.Continue.{Taken, taken_as, level_of, num_of, indented_on, caption_at, open_fence, definition_on, item_on, table_on, continues_of}
use Rattle.measure.specs.Measure.{gives_back, line_in, measured_as, extend_of, measure_of}
use Rattle.measure.specs.declared.Measured.{Measured}
use Rattle.walk.specs.Bounds.{Near}
use Rattle.walk.specs.Fields.{indent_of, from_of, to_of}
use Rattle.walk.proofs.WithinLaws.{identify-within}

-- ---- how many lines a block takes
gives-le : (k : Kind) (g : ℕ) → gives_back k g ≤ g + 1
gives-le Blankline g = omega arith
gives-le Attributes g = omega arith
gives-le ThematicBreak g = omega arith
gives-le Paragraph g = omega arith
gives-le (Heading l) g = omega arith
gives-le (Fenced i l m s c n) g = omega arith
gives-le (Definition i f s b) g = omega arith
gives-le Blockquote g = omega arith
gives-le (ListItem i m b) g = omega arith
gives-le (Table true b) g = omega arith
gives-le (Table false true) g = omega arith
gives-le (Table false false) g = omega arith

-- of n lines one at least is taken and kept, and no more than there are
pub record Takes (n : ℕ) (m : Measured) : Type 0 where
  pub some : m.given < m.lines
  pub few : m.lines ≤ n

takes : (b : Bool) (n : ℕ) (x y : Measured) → Takes n x → Takes n y → Takes n (pick b x y)
takes true n x y p q = p
takes false n x y p q = q

extend-takes : (text : List ℕ) (s e : ℕ) (k : Kind) (xs : List Span) (l g n m : ℕ) → g < l → l + length xs ≤ m → Takes m (extend_of text s e k xs l g n)
unfolding extend_of
extend-takes text s e k [] l g n m h f = record { some = h; few = omega arith }
extend-takes text s e k (x ∷ xs) l g n m h f =
    let t = continues_of k (line_in text x) in
    let z = gives-le t.kind g in
    takes t.taken m _ _ (extend-takes text s e t.kind xs (l + 1) (gives_back t.kind g) (n + 1) m (omega arith) (omega arith)) (record { some = h; few = omega arith })

pub measure-takes : (text : List ℕ) (x : Span) (xs : List Span) → Takes (length (x ∷ xs)) (measure_of text (x ∷ xs))
unfolding measure_of
measure-takes text x xs =
    let b = identify_of (line_in text x) in
    extend-takes text b.opening.start b.opening.end b.kind xs 1 0 1 (length (x ∷ xs)) (omega arith) (omega arith)

-- ---- what stays of a kind while lines are taken
record Stays (k : Kind) (t : Taken) : Type 0 where
  indent : indent_of t.kind ≡ indent_of k
  from : from_of t.kind ≡ from_of k
  to : to_of t.kind ≡ to_of k
  level : level_of t.kind ≡ level_of k

stays : (k : Kind) (b : Bool) (x y : Taken) → Stays k x → Stays k y → Stays k (pick b x y)
stays k true x y p q = p
stays k false x y p q = q

same : (b : Bool) (k : Kind) → Stays k (taken_as b k)
same b k = record { indent = refl; from = refl; to = refl; level = refl }

continues-stays : (k : Kind) (line : List ℕ) → Stays k (continues_of k line)
unfolding continues_of open_fence definition_on item_on table_on
continues-stays Blankline line = same _ Blankline
continues-stays Attributes line = same _ Attributes
continues-stays ThematicBreak line = same _ ThematicBreak
continues-stays Paragraph line = same _ Paragraph
continues-stays (Heading l) line = same _ (Heading l)
continues-stays (Fenced i l m s c n) line = stays _ c _ _ (same _ (Fenced i l m s c n)) (record { indent = refl; from = refl; to = refl; level = refl })
continues-stays (Definition i f s b) line =
    stays _ f _ _
    (stays _ (indented_on i b (num_of line) line) _ _ (record { indent = refl; from = refl; to = refl; level = refl }) (same _ (Definition i f s b)))
    (same _ (Definition i f s b))
continues-stays Blockquote line = same _ Blockquote
continues-stays (ListItem i m b) line = stays _ (indented_on i b (num_of line) line) _ _ (record { indent = refl; from = refl; to = refl; level = refl }) (same _ (ListItem i m b))
continues-stays (Table c b) line =
    let row = trim_both line in
    stays _ c _ _ (same _ (Table c b))
    (stays _ (eqb (length row) 0) _ _ (record { indent = refl; from = refl; to = refl; level = refl })
    (stays _ (caption_at row) _ _ (record { indent = refl; from = refl; to = refl; level = refl })
    (stays _ b _ _ (same _ (Table c b)) (same _ (Table c b)))))

near-stays : (b : ℕ) (k : Kind) (t : Taken) (s e l g n : ℕ) → Stays k t → Near b (measured_as k s e l g n) → Near b (measured_as t.kind s e l g n)
near-stays b k t s e l g n a h = record {
  start = h.start;
  end = h.end;
  indent = rw a.indent h.indent;
  from = rw a.from h.from;
  to = rw a.to h.to;
  level = rw a.level h.level;
}

near-count : (b : ℕ) (k : Kind) (s e l g n l' g' n' : ℕ) → Near b (measured_as k s e l g n) → Near b (measured_as k s e l' g' n')
near-count b k s e l g n l' g' n' h = record { start = h.start; end = h.end; indent = h.indent; from = h.from; to = h.to; level = h.level }

near-pick : (b : ℕ) (t : Bool) (x y : Measured) → Near b x → Near b y → Near b (pick t x y)
near-pick b true x y p q = p
near-pick b false x y p q = q

extend-near : (text : List ℕ) (b s e : ℕ) (k : Kind) (xs : List Span) (l g n : ℕ) → Near b (measured_as k s e l g n) → Near b (extend_of text s e k xs l g n)
unfolding extend_of
extend-near text b s e k [] l g n h = h
extend-near text b s e k (x ∷ xs) l g n h =
    let t = continues_of k (line_in text x) in
    near-pick b t.taken _ _
    (extend-near text b s e t.kind xs (l + 1) (gives_back t.kind g) (n + 1)
    (near-stays b k t s e (l + 1) (gives_back t.kind g) (n + 1) (continues-stays k (line_in text x)) (near-count b k s e l g n (l + 1) (gives_back t.kind g) (n + 1) h)))
    (near-count b k s e l g n l g (n + 1) h)

-- the words of the first line fit, so all that is found in it does
pub measure-near : (text : List ℕ) (x : Span) (xs : List Span) → x.start < 2 ^ 32 → x.end < 2 ^ 32 → Near x.start (measure_of text (x ∷ xs))
unfolding measure_of
measure-near text x xs p q =
    let line = line_in text x in
    let b = identify_of line in
    let w = identify-within line in
    let z = (part_length text x.start x.end).0 in
    extend-near text x.start b.opening.start b.opening.end b.kind xs 1 0 1
    (record {
      start = omega (arith, w.start, z);
      end = omega (arith, w.end, z);
      indent = omega (arith, w.indent, z);
      from = omega (arith, w.from, z);
      to = omega (arith, w.to, z);
      level = omega (arith, w.level, z);
    })
