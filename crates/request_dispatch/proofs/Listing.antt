-- Maps, filters and searches of lists.
use Rattle.std.proofs.Common.{◌≡◌, inl, inr, Bool, true, false, cond, not, ◌&&◌, ◌||◌, List, [], ◌∷◌, ◌++◌, map, filter, find, Option, Some, None, refl, ap, sym, ◌∙◌, true≢false}
use Rattle.std.specs.Option.{option_map}
use Rattle.std.specs.List.{list_any}
use Rattle.route_events.specs.Dispatch.{first_of, or_else}
use Rattle.route_events.proofs.Lists.{IsIn}
use Rattle.route_events.proofs.Quiet.{is_none_left}

pub map_same_in : {X Y : Type 0} (f g : X → Y) (xs : List X) → ((x : X) → IsIn x xs → f x ≡ g x) → map f xs ≡ map g xs
map_same_in f g [] h = refl
map_same_in f g (x ∷ xs) h = rw (h x (inl refl), map_same_in f g xs (λ y found. h y (inr found))) refl

pub map_twice : {X Y Z : Type 0} (f : Y → Z) (g : X → Y) (xs : List X) → map f (map g xs) ≡ map (λ x. f (g x)) xs
map_twice f g [] = refl
map_twice f g (x ∷ xs) = ap (λ zs. f (g x) ∷ zs) (map_twice f g xs)

pub filter_map : {X Y : Type 0} (p : Y → Bool) (f : X → Y) (xs : List X) → filter p (map f xs) ≡ map f (filter (λ x. p (f x)) xs)
filter_map p f [] = refl
filter_map {X} p f (x ∷ xs) = by_test (p (f x)) (filter_map p f xs)
  where
    by_test : (b : Bool) → filter p (map f xs) ≡ map f (filter (λ x. p (f x)) xs) → cond b (f x ∷ filter p (map f xs)) (filter p (map f xs)) ≡ map f (cond b (x ∷ filter (λ x. p (f x)) xs) (filter (λ x. p (f x)) xs))
    by_test true rest = ap (λ zs. f x ∷ zs) rest
    by_test false rest = rest

pub find_map : {X Y : Type 0} (p : Y → Bool) (f : X → Y) (xs : List X) → find p (map f xs) ≡ option_map f (find (λ x. p (f x)) xs)
find_map p f [] = refl
find_map {X} p f (x ∷ xs) = by_test (p (f x)) (find_map p f xs)
  where
    by_test : (b : Bool) → find p (map f xs) ≡ option_map f (find (λ x. p (f x)) xs) → cond b (Some (f x)) (find p (map f xs)) ≡ option_map f (cond b (Some x) (find (λ x. p (f x)) xs))
    by_test true rest = refl
    by_test false rest = rest

pub first_map : {X Y : Type 0} (f : X → Y) (xs : List X) → first_of (map f xs) ≡ option_map f (first_of xs)
first_map f [] = refl
first_map f (x ∷ xs) = refl

-- a harder test may follow an easier one
pub filter_within : {X : Type 0} (p q : X → Bool) (xs : List X) → ((x : X) → IsIn x xs → p x ≡ true → q x ≡ true) → filter p xs ≡ filter p (filter q xs)
filter_within p q [] h = refl
filter_within {X} p q (x ∷ xs) h = by_tests (p x) (q x) refl refl (filter_within p q xs (λ y found. h y (inr found)))
  where
    by_tests : (b c : Bool) → p x ≡ b → q x ≡ c → filter p xs ≡ filter p (filter q xs) → cond b (x ∷ filter p xs) (filter p xs) ≡ filter p (cond c (x ∷ filter q xs) (filter q xs))
    by_tests true true px qx rest = rw px (ap (λ zs. x ∷ zs) rest)
    by_tests false true px qx rest = rw px rest
    by_tests true false px qx rest = absurd (true≢false (sym (h x (inl refl) px) ∙ qx))
    by_tests false false px qx rest = rest

pub any_filter : {X : Type 0} (p : X → Bool) (xs : List X) → list_any p xs ≡ not (is_none_left (filter p xs))
any_filter p [] = refl
any_filter {X} p (x ∷ xs) = by_test (p x) (any_filter p xs)
  where
    by_test : (b : Bool) → list_any p xs ≡ not (is_none_left (filter p xs)) → (b || list_any p xs) ≡ not (is_none_left (cond b (x ∷ filter p xs) (filter p xs)))
    by_test true rest = refl
    by_test false rest = rest

pub none_left_map : {X Y : Type 0} (f : X → Y) (xs : List X) → is_none_left (map f xs) ≡ is_none_left xs
none_left_map f [] = refl
none_left_map f (x ∷ xs) = refl

pub in_map : {X Y : Type 0} (f : X → Y) (x : X) (xs : List X) → IsIn x xs → IsIn (f x) (map f xs)
in_map f x [] h = absurd h
in_map f x (y ∷ ys) (inl same) = inl (ap f same)
in_map f x (y ∷ ys) (inr later) = inr (in_map f x ys later)

pub any_map : {X Y : Type 0} (p : Y → Bool) (f : X → Y) (xs : List X) → list_any p (map f xs) ≡ list_any (λ x. p (f x)) xs
any_map p f [] = refl
any_map p f (x ∷ xs) = ap (λ b. p (f x) || b) (any_map p f xs)

pub any_same_in : {X : Type 0} (p q : X → Bool) (xs : List X) → ((x : X) → IsIn x xs → p x ≡ q x) → list_any p xs ≡ list_any q xs
any_same_in p q [] h = refl
any_same_in p q (x ∷ xs) h = λ i. h x (inl refl) i || any_same_in p q xs (λ y found. h y (inr found)) i

-- those that pass one test, asked for another
pub any_passed : {X : Type 0} (p q : X → Bool) (xs : List X) → list_any q (filter p xs) ≡ list_any (λ x. p x && q x) xs
any_passed p q [] = refl
any_passed {X} p q (x ∷ xs) = by_test (p x) (any_passed p q xs)
  where
    by_test : (b : Bool) → list_any q (filter p xs) ≡ list_any (λ x. p x && q x) xs → list_any q (cond b (x ∷ filter p xs) (filter p xs)) ≡ ((b && q x) || list_any (λ x. p x && q x) xs)
    by_test true rest = ap (λ b. q x || b) rest
    by_test false rest = rest

pub find_same : {X : Type 0} (p q : X → Bool) (xs : List X) → ((x : X) → p x ≡ q x) → find p xs ≡ find q xs
find_same p q [] h = refl
find_same {X} p q (x ∷ xs) h = λ i. cond (h x i) (Some x) (find_same p q xs h i)

-- a search goes on behind what has none
pub find_append : {X : Type 0} (p : X → Bool) (xs ys : List X) → find p (xs ++ ys) ≡ or_else (find p xs) (find p ys)
find_append p [] ys = refl
find_append {X} p (x ∷ xs) ys = by_test (p x) (find_append p xs ys)
  where
    by_test : (b : Bool) → find p (xs ++ ys) ≡ or_else (find p xs) (find p ys) → cond b (Some x) (find p (xs ++ ys)) ≡ or_else (cond b (Some x) (find p xs)) (find p ys)
    by_test true rest = refl
    by_test false rest = rest

pub or_else_map : {X Y : Type 0} (f : X → Y) (v w : Option X) → or_else (option_map f v) (option_map f w) ≡ option_map f (or_else v w)
or_else_map f None w = refl
or_else_map f (Some x) w = refl

pub or_else_none : {X : Type 0} (v : Option X) → or_else v None ≡ v
or_else_none None = refl
or_else_none (Some x) = refl
