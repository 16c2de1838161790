-- A loop that puts a piece for each of some items: the pieces so far, and room for the rest. Assumes nothing.
use Rattle.std.proofs.Common.{◌≡◌, ℕ, ◌+◌, ◌<◌, ◌≤◌, List, [], ◌∷◌, ◌++◌, length, get_or, take, drop, refl, sym, ap, ◌∙◌, subst, arith, length-append, append_assoc}
use Rattle.std.specs.List.{flat_map}
use Rattle.std.proofs.lemmas.List.{take_more, drop_more, take_all, append-nil}
use Rattle.std.proofs.lemmas.Grind.{flat_map-append}
use Rattle.sinks.specs.Laws.{SinkLaws}

-- so many items' pieces have been put, and the rest has room
pub record Putting {S X : Type 0} (fits : S → ℕ → Type 0) (took : S → List ℕ → S → Type 0) (f : X → List ℕ) (x : S) (xs : List X) (i : ℕ) (y : S) : Type 0 where
  pub done : took x (flat_map f (take i xs)) y
  pub room : fits y (length (flat_map f (drop i xs)))

-- a piece has been put in part, and the rest has room
pub record Part {S : Type 0} (fits : S → ℕ → Type 0) (took : S → List ℕ → S → Type 0) (x : S) (whole : List ℕ) (y : S) (rest : List ℕ) : Type 0 where
  pub so_far : List ℕ
  pub done : took x so_far y
  pub all : so_far ++ rest ≡ whole
  pub room : fits y (length rest)

module _ {S : Type 0} {fits : S → ℕ → Type 0} {took : S → List ℕ → S → Type 0} (laws : SinkLaws fits took) where
  -- one piece, of n bytes, and room for k more behind it
  pub fits-behind : {x y : S} {a : List ℕ} (n k m : ℕ) → took x a y → fits x m → length a ≡ n → n + k ≤ m → fits y k
  fits-behind {x} {y} {a} n k m t f l h = laws.left x y a k t (laws.less x (length a + k) m f (omega arith))

  pub took-more : {x y z : S} {a b : List ℕ} → took x a y → took y b z → took x (a ++ b) z
  took-more {x} {y} {z} {a} {b} = laws.more x y z a b

  -- the whole of it
  pub part-start : (x : S) (whole rest : List ℕ) → rest ≡ whole → fits x (length whole) → Part fits took x whole x rest
  part-start x whole rest e h = record { so_far = []; done = laws.none x; all = e; room = subst (λ (l : List ℕ). fits x (length l)) (sym e) h }

  module _ {x : S} {whole : List ℕ} {y : S} (a rest : List ℕ) (p : Part fits took x whole y (a ++ rest)) where
    pub part-room : fits y (length a)
    part-room = laws.less y _ _ p.room (omega (arith, length-append a rest))

    pub part-next : {z : S} → took y a z → Part fits took x whole z rest
    part-next {z} t = record {
      so_far = p.so_far ++ a;
      done = laws.more x y z _ _ p.done t;
      all = append_assoc p.so_far a rest ∙ p.all;
      room = fits-behind (length a) (length rest) _ t p.room refl (omega (arith, length-append a rest));
    }

  pub part-end : {x : S} {whole : List ℕ} {y : S} → Part fits took x whole y [] → took x whole y
  part-end {x} {whole} {y} p = subst (λ (l : List ℕ). took x l y) (sym (append-nil p.so_far) ∙ p.all) p.done

  module _ {X : Type 0} (f : X → List ℕ) where
    pub putting-start : (x : S) (xs : List X) → fits x (length (flat_map f xs)) → Putting fits took f x xs 0 x
    putting-start x xs h = record { done = laws.none x; room = h }

    module _ {x : S} {xs : List X} {i : ℕ} {y : S} (p : Putting fits took f x xs i y) where
      module _ (d : X) (h : i < length xs) where
        pub putting-room : fits y (length (f (get_or xs i d)))
        putting-room =
            let e = ap (λ (l : List X). length (flat_map f l)) (drop_more xs i d h) ∙ length-append (f (get_or xs i d)) (flat_map f (drop (i + 1) xs)) in
            laws.less y _ _ p.room (omega (arith, e))

        pub putting-turn : {z : S} → took y (f (get_or xs i d)) z → Putting fits took f x xs (i + 1) z
        putting-turn {z} t =
            let e = ap (λ (l : List X). length (flat_map f l)) (drop_more xs i d h) ∙ length-append (f (get_or xs i d)) (flat_map f (drop (i + 1) xs)) in
            let w : flat_map f (take (i + 1) xs) ≡ flat_map f (take i xs) ++ f (get_or xs i d) =
            ap (flat_map f) (take_more xs i d h) ∙ flat_map-append f (take i xs) (get_or xs i d ∷ []) ∙ ap (λ (l : List ℕ). flat_map f (take i xs) ++ l) (append-nil (f (get_or xs i d))) in
            record {
              done = subst (λ (l : List ℕ). took x l z) (sym w) (laws.more x y z _ _ p.done t);
              room = fits-behind _ _ _ t p.room refl (omega (arith, e));
            }

      pub putting-end : length xs ≤ i → took x (flat_map f xs) y
      putting-end h = subst (λ (l : List X). took x (flat_map f l) y) (take_all i xs h) p.done
