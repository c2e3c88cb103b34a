-- The reading of items of octets, whatever reads the first of them.
use Rattle.std.proofs.Common.{◌≡◌, ℕ, zero, suc, ◌≤◌, List, [], ◌∷◌, ◌++◌, length, drop, Option, Some, None, refl, ap, sym, ◌∙◌, arith}
use Rattle.std.proofs.lemmas.List.{append_assoc, append-nil, length-drop}
use Rattle.dns_names.specs.Names.{AreBytes}
use Rattle.svcb_wire.specs.ValueReading.{First, by_first, items_behind, read_items}
use Rattle.dns_names.proofs.Bytes.{bytes_drop}

abbrev pub Items : Type 0
Items = List (List ℕ)

-- an item takes an octet at least
abbrev pub Takes : First → Type 0
Takes first = (x item : List ℕ) (n : ℕ) → first x ≡ Some (item, n) → 1 ≤ n

same_next : (found : Option (List ℕ × ℕ)) (first : First) (k m : ℕ) (items : Items) (x : List ℕ) → first x ≡ found → Takes first → length x ≤ suc k → length x ≤ suc m
    → ((is : Items) (y : List ℕ) → length y ≤ k → length y ≤ m → items_behind first k is y ≡ items_behind first m is y)
    → by_first found items x (items_behind first k) ≡ by_first found items x (items_behind first m)
same_next None first k m items x e takes h i next = refl
same_next (Some found) first k m items x e takes h i next =
    let some = takes x found.0 found.1 e in
    next _ (drop found.1 x) (omega (arith, length-drop found.1 x, h, some)) (omega (arith, length-drop found.1 x, i, some))

-- any count of items that is no less than that of the octets serves
enough : (first : First) (k m : ℕ) (items : Items) (x : List ℕ) → Takes first → length x ≤ k → length x ≤ m → items_behind first k items x ≡ items_behind first m items x
enough first zero zero items x takes h i = refl
enough first zero (suc m) items [] takes h i = refl
enough first zero (suc m) items (b ∷ bs) takes h i = absurd (omega arith)
enough first (suc k) zero items [] takes h i = refl
enough first (suc k) zero items (b ∷ bs) takes h i = absurd (omega arith)
enough first (suc k) (suc m) items [] takes h i = refl
enough first (suc k) (suc m) items (b ∷ bs) takes h i = same_next (first (b ∷ bs)) first k m items (b ∷ bs) refl takes h i (λ is y p q. enough first k m is y takes p q)

-- the items of the rest, behind some
abbrev pub reads : First → Items → List ℕ → Option Items
reads first items x = items_behind first (length x) items x

pub reads_end : (first : First) (items : Items) (x : List ℕ) → length x ≡ 0 → reads first items x ≡ Some items
reads_end first items [] h = refl
reads_end first items (b ∷ bs) h = absurd (omega arith)

pub reads_none : (first : First) (items : Items) (x : List ℕ) → 1 ≤ length x → first x ≡ None → reads first items x ≡ None
reads_none first items [] h e = absurd (omega arith)
reads_none first items (b ∷ bs) h e = rw e refl

pub reads_some : (first : First) (items : Items) (x item : List ℕ) (n : ℕ) → Takes first → 1 ≤ length x → first x ≡ Some (item, n) → reads first items x ≡ reads first (items ++ item ∷ []) (drop n x)
reads_some first items [] item n takes h e = absurd (omega arith)
reads_some first items (b ∷ bs) item n takes h e =
    let some = takes (b ∷ bs) item n e in
    rw e (enough first (length bs) (length (drop n (b ∷ bs))) (items ++ item ∷ []) (drop n (b ∷ bs)) takes (omega (arith, length-drop n (b ∷ bs), some)) (omega arith))

-- a reader of first items reads the octets of lists of items
pub record IsReader (first : First) (octets : Items → List ℕ) (Are : Items → Type 0) : Type 0 where
  pub takes : Takes first
  pub none_are : Are []
  pub none_octets : octets [] ≡ []
  pub sound : (x item : List ℕ) (n : ℕ) (items : Items) → AreBytes x → first x ≡ Some (item, n) → octets items ≡ drop n x → Are items → Are (item ∷ items) × (octets (item ∷ items) ≡ x)
  pub complete : (item : List ℕ) (items : Items) → Are (item ∷ items) → (n : ℕ) × Are items × (first (octets (item ∷ items)) ≡ Some (item, n)) × (drop n (octets (item ∷ items)) ≡ octets items) × (1 ≤ length (octets (item ∷ items)))

-- the items that were read, behind some
pub record ItemsBehind (octets : Items → List ℕ) (Are : Items → Type 0) (items : Items) (x : List ℕ) (r : Items) : Type 0 where
  pub more : Items
  pub all : r ≡ items ++ more
  pub whole : octets more ≡ x
  pub are : Are more

no_items : (first : First) (octets : Items → List ℕ) (Are : Items → Type 0) (items r : Items) → IsReader first octets Are → (let a : Option Items = Some items in a) ≡ Some r → ItemsBehind octets Are items [] r
no_items first octets Are items r reader e = let same : r ≡ items = cc in record { more = []; all = same ∙ sym (append-nil items); whole = reader.none_octets; are = reader.none_are }

item_says : (found : Option (List ℕ × ℕ)) (first : First) (octets : Items → List ℕ) (Are : Items → Type 0) (k : ℕ) (items r : Items) (x : List ℕ) → IsReader first octets Are → AreBytes x → first x ≡ found
    → by_first found items x (items_behind first k) ≡ Some r
    → ((is : Items) (y : List ℕ) → AreBytes y → items_behind first k is y ≡ Some r → ItemsBehind octets Are is y r)
    → ItemsBehind octets Are items x r
item_says None first octets Are k items r x reader bytes is e next = cc
item_says (Some found) first octets Are k items r x reader bytes is e next =
    let n = next (items ++ found.0 ∷ []) (drop found.1 x) (bytes_drop found.1 x bytes) e in
    let one = reader.sound x found.0 found.1 n.more bytes is n.whole n.are in
    record { more = found.0 ∷ n.more; all = n.all ∙ append_assoc items (found.0 ∷ []) n.more; whole = one.1; are = one.0 }

pub items_says : (k : ℕ) (first : First) (octets : Items → List ℕ) (Are : Items → Type 0) (items r : Items) (x : List ℕ) → IsReader first octets Are → AreBytes x → items_behind first k items x ≡ Some r → ItemsBehind octets Are items x r
items_says zero first octets Are items r [] reader bytes e = no_items first octets Are items r reader e
items_says zero first octets Are items r (b ∷ bs) reader bytes e = cc
items_says (suc k) first octets Are items r [] reader bytes e = no_items first octets Are items r reader e
items_says (suc k) first octets Are items r (b ∷ bs) reader bytes e =
    item_says (first (b ∷ bs)) first octets Are k items r (b ∷ bs) reader bytes refl e (λ is y h f. items_says k first octets Are is r y reader h f)

pub items_reads : (more : Items) (first : First) (octets : Items → List ℕ) (Are : Items → Type 0) (items : Items) → IsReader first octets Are → Are more → reads first items (octets more) ≡ Some (items ++ more)
items_reads [] first octets Are items reader are = reads_end first items (octets []) (ap length reader.none_octets) ∙ ap Some (sym (append-nil items))
items_reads (item ∷ more) first octets Are items reader are =
    let c = reader.complete item more are in
    reads_some first items (octets (item ∷ more)) item c.0 reader.takes c.4 c.2 ∙ ap (λ xs. reads first (items ++ item ∷ []) xs) c.3
    ∙ items_reads more first octets Are (items ++ item ∷ []) reader c.1 ∙ ap Some (append_assoc items (item ∷ []) more)

-- the loop: one item on
pub item_on : (first : First) (items new : Items) (x rest value item : List ℕ) (n : ℕ) → Takes first → 1 ≤ length x → first x ≡ Some (item, n) → new ≡ items ++ item ∷ [] → rest ≡ drop n x → reads first items x ≡ reads first [] value
    → reads first new rest ≡ reads first [] value
item_on first items new x rest value item n takes some found pushed behind so_far =
    rw (pushed, behind) (sym (reads_some first items x item n takes some found) ∙ so_far)

none_by : (first : First) (value : List ℕ) → reads first [] value ≡ None → None ≡ read_items first value
none_by first [] e = refl
none_by first (b ∷ bs) e = sym e

-- the loop: no item more
pub item_none : (first : First) (items : Items) (x value : List ℕ) → 1 ≤ length x → first x ≡ None → reads first items x ≡ reads first [] value → None ≡ read_items first value
item_none first items x value some none so_far = none_by first value (sym so_far ∙ reads_none first items x some none)
