-- The parts of a line, and how long a line is at most. Assumes nothing.
use mathlib.Core.Path.{◌≡◌, refl, sym, ap, ◌∙◌}
use mathlib.Core.Bool.{Bool, true, false}
use mathlib.Core.Logic.{⊎_elim}
use mathlib.Core.List.{List, [], ◌∷◌, ◌++◌, map, append_assoc, append-nil}
use Prim.Native.Nat.{ℕ, zero, suc, ◌≤◌, ◌<◌, max}
use Prim.Native.String.{String}
use native.Mathlib.Nat.{eq-zero-or-pos}
use native.Mathlib.Omega.{arith}
use lib.Dec.{eqb}
use lib.ListN.{length, get_or, length-append, get_or-eq_default, get_or-map}
use borrow.Author.Tests.{eq-eqb, ne_eqb}
use Rattle.std.specs.List.{flat_map}
use Rattle.classes.specs.Choice.{pick}
use Rattle.events.specs.declared.Event.{Event}
use Rattle.fields.specs.Fields.{field_of, pairs_of}
use Rattle.fields.specs.Numbers.{field_num, pair_num}
use Rattle.fields.specs.declared.Field.{Field}
use Rattle.fields.specs.declared.Field.TheVariants.{Nothing, Offset, Flag, Bullet, ListType, Half, Level, Alignment}
use Rattle.entries.specs.Text.{text, decimal_of}
use Rattle.entries.specs.Entries.{nodes, atoms, node_name, atom_name, spaced, used, head_of, body_of, line_of, looks_line, refused_line}
use Rattle.entries.proofs.NumberLaws.{decimal-short}

-- ---- names
abbrev most : List ℕ → ℕ
most [] = 0
most (x ∷ l) = max x (most l)

get_d-most : (l : List ℕ) (n : ℕ) → get_or l n 0 ≤ most l
get_d-most [] n = omega arith
get_d-most (x ∷ l) zero = omega arith
get_d-most (x ∷ l) (suc n) = omega (arith, get_d-most l n)

abbrev sizes : List String → List ℕ
sizes l = map (λ (s : String). length (text s)) l

pub node-size : (n : ℕ) → (get_or (sizes nodes) n 0 ≡ length (node_name n)) × (get_or (sizes nodes) n 0 ≤ 15)
unfolding node_name text
node-size n = (get_or-map (λ (s : String). length (text s)) nodes n "", get_d-most (sizes nodes) n)

pub atom-size : (n : ℕ) → (get_or (sizes atoms) n 0 ≡ length (atom_name n)) × (get_or (sizes atoms) n 0 ≤ 15)
unfolding atom_name text
atom-size n = (get_or-map (λ (s : String). length (text s)) atoms n "", omega (arith, get_d-most (sizes atoms) n))

pub no_node : (n : ℕ) → (0 < n → 21 < n) → node_name n ≡ []
unfolding node_name text
no_node n h = ⊎_elim (λ e. ap node_name e) (λ p. ap text (get_or-eq_default nodes "" (h p))) (eq-zero-or-pos n)

pub no-atom : (n : ℕ) → (0 < n → 3 < n) → atom_name n ≡ []
unfolding atom_name text
no-atom n h = ⊎_elim (λ e. ap atom_name e) (λ p. ap text (get_or-eq_default atoms "" (h p))) (eq-zero-or-pos n)

-- ---- body words
module _ (field n : ℕ) where
  pub used-none : field ≡ 0 → used field n ≡ []
  unfolding used
  used-none e = rw (eq-eqb field 0 e)

  pub used-some : (field ≡ 0 → ⊥) → used field n ≡ spaced n
  unfolding used
  used-some h = rw (ne_eqb field 0 h)

-- a field that is something has a number
pub field-some : (f : Field) → (f ≡ Nothing → ⊥) → field_num f ≡ 0 → ⊥
field-some Nothing h e = h refl
field-some Offset h e = cc
field-some Flag h e = cc
field-some Bullet h e = cc
field-some ListType h e = cc
field-some Half h e = cc
field-some Level h e = cc
field-some Alignment h e = cc

-- the word of a field, and all four
abbrev pub piece : Field × ℕ → List ℕ
piece p = used (field_num p.0) p.1

pieces-used : (ws : List (Field × ℕ)) → flat_map piece ws ≡ flat_map (λ (p : ℕ × ℕ). used p.0 p.1) (map pair_num ws)
pieces-used [] = refl
pieces-used (w ∷ ws) = ap (λ (l : List ℕ). piece w ++ l) (pieces-used ws)

body-used : (x : Event) → flat_map (λ (p : ℕ × ℕ). used p.0 p.1) (pairs_of x) ≡ body_of x
unfolding body_of
body-used x = simp (append_assoc, append-nil)

pub pieces-body : (x : Event) (ws : List (Field × ℕ)) → map pair_num ws ≡ pairs_of x → flat_map piece ws ≡ body_of x
pieces-body x ws e = pieces-used ws ∙ ap (flat_map (λ (p : ℕ × ℕ). used p.0 p.1)) e ∙ body-used x

-- ---- role and name
module _ (x : Event) where
  pub head-inline : x.role ≡ 3 → head_of x ≡ text "I"
  unfolding head_of
  head-inline e = rw (eq-eqb x.role 3 e)

  pub head-atom : (x.role ≡ 3 → ⊥) → x.role ≡ 4 → head_of x ≡ text "A " ++ atom_name x.node
  unfolding head_of
  head-atom h e = rw (ne_eqb x.role 3 h, eq-eqb x.role 4 e)

  module _ (h : x.role ≡ 3 → ⊥) (g : x.role ≡ 4 → ⊥) where
    head-node : head_of x ≡ pick (eqb x.role 1) (text "E ") (text "X ") ++ node_name x.node
    unfolding head_of
    head-node = rw (ne_eqb x.role 3 h, ne_eqb x.role 4 g)

    pub head-enter : x.role ≡ 1 → head_of x ≡ text "E " ++ node_name x.node
    head-enter e = head-node ∙ rw (eq-eqb x.role 1 e)

    pub head-exit : (x.role ≡ 1 → ⊥) → head_of x ≡ text "X " ++ node_name x.node
    head-exit e = head-node ∙ rw (ne_eqb x.role 1 e)

-- ---- lines, their parts one behind another
module _ (x : Event) where
  pub line-none : x.role ≡ 0 → line_of x ≡ []
  unfolding line_of
  line-none e = rw (eq-eqb x.role 0 e)

  module _ (h : x.role ≡ 0 → ⊥) where
    line-is : line_of x ≡ head_of x ++ spaced x.start ++ spaced x.end ++ body_of x ++ text "\n"
    unfolding line_of
    line-is = rw (ne_eqb x.role 0 h)

    pub line-parts : head_of x ++ (spaced x.start ++ (spaced x.end ++ (body_of x ++ (text "\n" ++ [])))) ≡ line_of x
    line-parts = sym (line-is ∙ simp (append_assoc, append-nil))

pub spaced-parts : (n : ℕ) → text " " ++ (decimal_of n ++ []) ≡ spaced n
unfolding spaced
spaced-parts n = simp append-nil

pub looks-parts : (n : ℕ) → text "looks" ++ (spaced n ++ (text "\n" ++ [])) ≡ looks_line n
unfolding looks_line
looks-parts n = simp (append_assoc, append-nil)

pub refused-parts : (n m : ℕ) → text "refused" ++ (spaced n ++ (text " at" ++ (spaced m ++ (text "\n" ++ [])))) ≡ refused_line n m
unfolding refused_line
refused-parts n m = simp (append_assoc, append-nil)

-- ---- a line is short
spaced-short : (n : ℕ) → length (spaced n) ≤ 21
unfolding spaced text
spaced-short n = omega (arith, length-append (text " ") (decimal_of n), decimal-short n)

used-short : (f n : ℕ) → length (used f n) ≤ 21
unfolding used
used-short f n = by-test (eqb f 0)
  where
    by-test : (b : Bool) → length (pick b [] (spaced n)) ≤ 21
    by-test true = omega arith
    by-test false = spaced-short n

body-short : (x : Event) → length (body_of x) ≤ 84
unfolding body_of
body-short x =
    let f : ℕ → ℕ = field_of x.role x.node in
    let a = used (f 0) x.a in
    let b = used (f 1) x.b in
    let c = used (f 2) x.c in
    let d = used (f 3) x.d in
    omega (arith, length-append (a ++ b ++ c) d, length-append (a ++ b) c, length-append a b, used-short (f 0) x.a, used-short (f 1) x.b, used-short (f 2) x.c, used-short (f 3) x.d)

head-short : (x : Event) → length (head_of x) ≤ 17
unfolding head_of text
head-short x = by-tests (eqb x.role 3) (eqb x.role 4) (eqb x.role 1)
  where
    by-tests : (a b c : Bool) → length (pick a (text "I") (pick b (text "A " ++ atom_name x.node) (pick c (text "E ") (text "X ") ++ node_name x.node))) ≤ 17
    by-tests true b c = omega arith
    by-tests false true c = omega (arith, length-append (text "A ") (atom_name x.node), atom-size x.node)
    by-tests false false true = omega (arith, length-append (text "E ") (node_name x.node), node-size x.node)
    by-tests false false false = omega (arith, length-append (text "X ") (node_name x.node), node-size x.node)

pub line-short : (x : Event) → length (line_of x) ≤ 144
unfolding line_of text
line-short x = by-test (eqb x.role 0)
  where
    by-test : (b : Bool) → length (pick b [] (head_of x ++ spaced x.start ++ spaced x.end ++ body_of x ++ text "\n")) ≤ 144
    by-test true = omega arith
    by-test false =
        omega (
          arith,
          length-append (head_of x ++ spaced x.start ++ spaced x.end ++ body_of x) (text "\n"),
          length-append (head_of x ++ spaced x.start ++ spaced x.end) (body_of x),
          length-append (head_of x ++ spaced x.start) (spaced x.end),
          length-append (head_of x) (spaced x.start),
          head-short x,
          spaced-short x.start,
          spaced-short x.end,
          body-short x,
        )

pub looks-short : (n : ℕ) → length (looks_line n) ≤ 27
unfolding looks_line text
looks-short n = omega (arith, length-append (text "looks" ++ spaced n) (text "\n"), length-append (text "looks") (spaced n), spaced-short n)

pub refused-short : (n m : ℕ) → length (refused_line n m) ≤ 53
unfolding refused_line text
refused-short n m =
    let a = text "refused" in
    let b = text " at" in
    omega (
      arith,
      length-append (a ++ spaced n ++ b ++ spaced m) (text "\n"),
      length-append (a ++ spaced n ++ b) (spaced m),
      length-append (a ++ spaced n) b,
      length-append a (spaced n),
      spaced-short n,
      spaced-short m,
    )
