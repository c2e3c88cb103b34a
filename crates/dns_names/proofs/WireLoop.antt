-- What the loop over the labels of a name's wire form keeps.
use Rattle.std.proofs.Common.{◌≡◌, ◌≤◌, ℕ, suc, ◌+◌, List, [], ◌∷◌, ◌++◌, length, take, drop, ap, sym, ◌∙◌, subst, arith}
use Rattle.std.proofs.lemmas.List.{length-drop, drop-drop}
use Rattle.std.specs.Str.{str_to_ascii_lowercase}
use Rattle.dns_names.specs.declared.wire.Begins.TheVariants.{Label}
use Rattle.dns_names.specs.WireReading.{begins_with, read_wire}
use Rattle.dns_names.proofs.WireSteps.{BeginSays, begin_says, reads, reads_label}

-- labels of so many octets are read, and what is left gives the answer
pub record HasRead (p : ℕ) (octets : List ℕ) (used : ℕ) (labels : List (List ℕ)) : Type 0 where
  pub within : used ≤ length octets
  pub most : used ≤ 255
  pub same : reads p used labels (drop used octets) ≡ read_wire p octets

-- one label on
pub label_read : (p used n : ℕ) (octets rest label : List ℕ) (labels new : List (List ℕ)) → rest ≡ drop used octets → begins_with used rest ≡ Label n → label ≡ str_to_ascii_lowercase (take n (drop 1 rest)) → new ≡ labels ++ label ∷ [] → HasRead p octets used labels
    → HasRead p octets (used + (1 + n)) new
label_read p used n octets rest label labels new is begins made pushed read =
    let says : BeginSays used rest (Label n) = subst (λ b. BeginSays used rest b) begins (begin_says used rest) in
    let size : length rest ≡ suc (length says.0) = ap length says.1 in
    let whole : length rest ≡ length (drop used octets) = ap length is in
    let one : used + (1 + n) ≡ used + suc n = omega arith in
    let at : begins_with used (drop used octets) ≡ Label n = subst (λ xs. begins_with used xs ≡ Label n) is begins in
    let named : new ≡ labels ++ str_to_ascii_lowercase (take n (drop 1 (drop used octets))) ∷ [] = pushed ∙ ap (λ l. labels ++ l ∷ []) (made ∙ ap (λ xs. str_to_ascii_lowercase (take n (drop 1 xs))) is) in
    record {
      within = omega (arith, size, whole, says.3, length-drop used octets, read.within);
      most = omega (arith, says.2.2);
      same = rw (one, named, ← drop-drop (suc n) used octets) (sym (reads_label p used n labels (drop used octets) at) ∙ read.same);
    }
