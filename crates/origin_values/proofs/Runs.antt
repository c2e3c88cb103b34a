-- The bytes of a host in an origin's text.
use Rattle.std.proofs.Common.{add-one, ◌≡◌, ℕ, ◌+◌, Bool, true, false, cond, nat_eq, List, [], ◌∷◌, ◌++◌, length, Option, Some, None, option_map, refl, ap, sym, ◌∙◌, subst, arith, inl, inr, append_assoc, length-append}
use Rattle.std.specs.List.{list_all, list_any}
use Rattle.std.specs.Char.{is_ascii}
use Rattle.idna.specs.Uts46.{domain_to_ascii}
use Rattle.idna.specs.declared.deny_list.TheConstants.AsciiDenyList.{URL}
use Rattle.origin_values.specs.HostReading.{read_host}
use Rattle.origin_values.specs.OriginGrammar.{ends_host, IsRun, FollowsHost, BeginsWith, SpellsMapped, SpellsRun}
use Rattle.origin_values.specs.OriginReading.{count_before, bracket_end, host_end, read_mapped, read_run}
use Rattle.origin_values.specs.declared.host.Host.{Host}
use Rattle.origin_values.proofs.Hosts.{read_host_sound, read_host_complete}
use Rattle.alt_base.proofs.Numbers.{true_eq, eq_false}
use Rattle.std.proofs.lemmas.Bool.{or_parts}

count_run : (run tail : List ℕ) → list_any ends_host run ≡ false → FollowsHost tail → count_before ends_host (run ++ tail) ≡ length run
count_run [] [] inside follows = refl
count_run [] (b ∷ bs) inside follows = rw follows refl
count_run (b ∷ run) tail inside follows =
    let t = or_parts (ends_host b) (list_any ends_host run) inside in
    rw t.0 (ap (λ n. n + 1) (count_run run tail t.1 follows) ∙ add-one (length run))

bracket_run : (inner tail : List ℕ) → list_any (λ b. nat_eq b 93) inner ≡ false → bracket_end (inner ++ 93 ∷ tail) ≡ Some (length inner + 1)
bracket_run [] tail first = refl
bracket_run (b ∷ inner) tail first =
    let t = or_parts (nat_eq b 93) (list_any (λ c. nat_eq c 93) inner) first in
    rw t.0 (ap (option_map (λ n. n + 1)) (bracket_run inner tail t.1) ∙ ap (λ n. Some (n + 1)) (add-one (length inner)))

-- the run's length is what the reading counts
pub run_end : (run tail : List ℕ) → IsRun run tail → host_end (run ++ tail) ≡ Some (length run)
run_end run tail (inl h) =
    ap (λ r. host_end (r ++ tail)) h.spelled ∙ ap (λ xs. host_end (91 ∷ xs)) (append_assoc h.inner (93 ∷ []) tail)
    ∙ ap (option_map (λ n. n + 1)) (bracket_run h.inner tail h.first) ∙ ap Some (counted h.inner ∙ sym (ap length h.spelled))
  where
    counted : (inner : List ℕ) → (length inner + 1) + 1 ≡ length (91 ∷ (inner ++ 93 ∷ []))
    counted inner = omega (arith, length-append inner (93 ∷ []))
run_end [] [] (inr h) = refl
run_end [] (b ∷ bs) (inr h) = go (nat_eq b 91) refl
  where
    go : (t : Bool) → nat_eq b 91 ≡ t → cond t (option_map (λ n. n + 1) (bracket_end bs)) (Some (count_before ends_host (b ∷ bs))) ≡ Some 0
    go true is = absurd (clash (subst (λ c. ends_host c ≡ true) (true_eq b 91 is) h.longest))
      where
        clash : false ≡ true → ⊥
        clash e = cc
    go false is = ap Some (count_run [] (b ∷ bs) h.inside h.longest)
run_end (b ∷ run) tail (inr h) = rw (eq_false b 91 h.no_bracket) (ap Some (count_run (b ∷ run) tail h.inside h.longest))

-- the front of a text, by what the reading counts
pub record HasRun (rest : List ℕ) (end : ℕ) : Type 0 where
  pub run : List ℕ
  pub tail : List ℕ
  pub spelled : rest ≡ run ++ tail
  pub is_run : IsRun run tail
  pub count : end ≡ length run

record Closed (bs : List ℕ) (end : ℕ) : Type 0 where
  inner : List ℕ
  tail : List ℕ
  spelled : bs ≡ inner ++ 93 ∷ tail
  first : list_any (λ b. nat_eq b 93) inner ≡ false
  count : end ≡ length inner + 1

some_same : (m n : ℕ) → Some m ≡ Some n → n ≡ m
some_same m n e = cc

closed_found : (bs : List ℕ) (end : ℕ) → bracket_end bs ≡ Some end → Closed bs end
closed_found [] end h = cc
closed_found (b ∷ bs) end h = go (λ n. closed_found bs n) (nat_eq b 93) (bracket_end bs) refl refl h
  where
    go : ((n : ℕ) → bracket_end bs ≡ Some n → Closed bs n) → (t : Bool) (o : Option ℕ) → nat_eq b 93 ≡ t → bracket_end bs ≡ o → cond t (Some 1) (option_map (λ n. n + 1) o) ≡ Some end → Closed (b ∷ bs) end
    go later true o is found e = record { inner = []; tail = bs; spelled = ap (λ c. c ∷ bs) (true_eq b 93 is); first = refl; count = some_same 1 end e }
    go later false None is found e = cc
    go later false (Some n) is found e =
        let rest = later n found in
        record {
          inner = b ∷ rest.inner;
          tail = rest.tail;
          spelled = ap (λ xs. b ∷ xs) rest.spelled;
          first = rw is rest.first;
          count = some_same (n + 1) end e ∙ omega (arith, rest.count);
        }

record Plain (bs : List ℕ) (end : ℕ) : Type 0 where
  run : List ℕ
  tail : List ℕ
  spelled : bs ≡ run ++ tail
  inside : list_any ends_host run ≡ false
  follows : FollowsHost tail
  count : end ≡ length run

plain_found : (bs : List ℕ) → Plain bs (count_before ends_host bs)
plain_found [] = record { run = []; tail = []; spelled = refl; inside = refl; follows = tt; count = refl }
plain_found (b ∷ bs) = go (ends_host b) refl (plain_found bs)
  where
    go : (t : Bool) → ends_host b ≡ t → Plain bs (count_before ends_host bs) → Plain (b ∷ bs) (cond t 0 (count_before ends_host bs + 1))
    go true is rest = record { run = []; tail = b ∷ bs; spelled = refl; inside = refl; follows = is; count = refl }
    go false is rest = record {
      run = b ∷ rest.run;
      tail = rest.tail;
      spelled = ap (λ xs. b ∷ xs) rest.spelled;
      inside = rw is rest.inside;
      follows = rest.follows;
      count = omega (arith, rest.count);
    }

no_bracket_in : (b : ℕ) (bs run tail : List ℕ) → nat_eq b 91 ≡ false → b ∷ bs ≡ run ++ tail → BeginsWith (λ c. c ≡ 91) run → ⊥
no_bracket_in b bs [] tail other spelled h = h
no_bracket_in b bs (c ∷ run) tail other spelled h = let same : b ≡ c = cc in clash (sym other ∙ ap (λ x. nat_eq x 91) (same ∙ h))
  where
    clash : false ≡ true → ⊥
    clash e = cc

pub run_found : (rest : List ℕ) (end : ℕ) → host_end rest ≡ Some end → HasRun rest end
run_found [] end h = record { run = []; tail = []; spelled = refl; is_run = inr (record { inside = refl; no_bracket = λ e. e; longest = tt }); count = some_same 0 end h }
run_found (b ∷ bs) end h = go (nat_eq b 91) (bracket_end bs) refl refl h
  where
    go : (t : Bool) (o : Option ℕ) → nat_eq b 91 ≡ t → bracket_end bs ≡ o → cond t (option_map (λ n. n + 1) o) (Some (count_before ends_host (b ∷ bs))) ≡ Some end → HasRun (b ∷ bs) end
    go true None is found e = cc
    go true (Some n) is found e =
        let closed = closed_found bs n found in
        record {
          run = 91 ∷ (closed.inner ++ 93 ∷ []);
          tail = closed.tail;
          spelled = ap (λ c. c ∷ bs) (true_eq b 91 is) ∙ ap (λ xs. 91 ∷ xs) (closed.spelled ∙ sym (append_assoc closed.inner (93 ∷ []) closed.tail));
          is_run = inl (record { inner = closed.inner; spelled = refl; first = closed.first });
          count = some_same (n + 1) end e ∙ omega (arith, closed.count, length-append closed.inner (93 ∷ []));
        }
    go false o is found e =
        let plain = plain_found (b ∷ bs) in
        record {
          run = plain.run;
          tail = plain.tail;
          spelled = plain.spelled;
          is_run = inr (record { inside = plain.inside; no_bracket = no_bracket_in b bs plain.run plain.tail is plain.spelled; longest = plain.follows });
          count = some_same (count_before ends_host (b ∷ bs)) end e ∙ plain.count;
        }

-- the host of a run
pub run_complete : (run : List ℕ) (host : Host) → SpellsRun run host → read_run run ≡ Some host
run_complete run host (inl h) = rw h.0 (read_host_complete run host h.1)
run_complete run host (inr h) = rw (h.0, h.1.value, h.1.no_underscore) (read_host_complete h.1.mapped host h.1.spelled)

mapped_sound : (run : List ℕ) (host : Host) → list_all is_ascii run ≡ false → read_mapped (domain_to_ascii URL run) ≡ Some host → SpellsMapped run host
mapped_sound run host other h = go (domain_to_ascii URL run) refl h
  where
    at : (mapped : List ℕ) (t : Bool) → domain_to_ascii URL run ≡ Some mapped → list_any (λ b. nat_eq b 95) mapped ≡ t → cond t None (read_host mapped) ≡ Some host → SpellsMapped run host
    at mapped true is under e = cc
    at mapped false is under e = record { mapped = mapped; value = is; no_underscore = under; spelled = read_host_sound mapped host e }

    go : (o : Option (List ℕ)) → domain_to_ascii URL run ≡ o → read_mapped o ≡ Some host → SpellsMapped run host
    go None is e = cc
    go (Some mapped) is e = at mapped (list_any (λ b. nat_eq b 95) mapped) is refl e

pub run_sound : (run : List ℕ) (host : Host) → read_run run ≡ Some host → SpellsRun run host
run_sound run host h = go (list_all is_ascii run) refl h
  where
    go : (t : Bool) → list_all is_ascii run ≡ t → cond t (read_host run) (read_mapped (domain_to_ascii URL run)) ≡ Some host → SpellsRun run host
    go true is e = inl (is, read_host_sound run host e)
    go false is e = inr (is, mapped_sound run host is e)
