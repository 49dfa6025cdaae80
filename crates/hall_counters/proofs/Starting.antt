-- Counters and places at the start and at the end.
use Rattle.std.proofs.Common.{rules, ◌≡◌, ℕ, zero, suc, ◌*◌, ◌<◌, ◌≤◌, Bool, true, false, ◌&&◌, nat_lt, List, [], ◌∷◌, ◌++◌, map, length, All, sym, ap, ◌∙◌, subst, arith}
use Rattle.std.proofs.lemmas.Bool.Decides.{nat_tests}
use Rattle.std.proofs.lemmas.List.Elements.{All-cons}
use Rattle.be_hall.specs.Numbers.{total}
use Rattle.be_hall.specs.Hands.{up_from, rises_from}
use Rattle.be_hall.specs.Machine.{AllFit}
use Rattle.hall_counters.specs.declared.counters.Counter.{Counter}
use Rattle.hall_counters.specs.declared.transfer.Count.{Count}
use Rattle.hall_counters.specs.Counting.{counting}
use Rattle.hall_counters.specs.Opening.{EachOpens}

pub opens_snoc : (xs : List Counter) (x : Counter) (u l : ℕ) → x.count ≡ record { units = u; left = l } → u ≤ 4611686018427387904 → l ≤ 1073741824 → x.log.items ≡ [] → EachOpens xs → EachOpens (xs ++ x ∷ [])
opens_snoc [] x u l is a b e o = (subst (λ (c : Count). c.units ≤ 4611686018427387904) (sym is) a, subst (λ (c : Count). c.left ≤ 1073741824) (sym is) b, e, tt)
opens_snoc (y ∷ ys) x u l is a b e o = (o.0, o.1, o.2, opens_snoc ys x u l is a b e o.3)

pub total_few : (xs : List Counter) → EachOpens xs → total (λ (c : Count). c.left) (map (λ x. x.count) xs) ≤ length xs * 1073741824
total_few [] o = omega arith
total_few (x ∷ xs) o = let r = total_few xs o.3 in let h = o.1 in omega arith

pub left_small : (t n places : ℕ) → t ≤ n * 1073741824 → n ≡ places → places < 4294967296 → t ≤ 4611686018427387904
left_small t n places a b c = omega arith

pub all_fit : (places : ℕ) (xs : List Counter) → EachOpens xs → AllFit (counting places).fits 0 (map (λ x. x.count) xs)
all_fit places [] o = tt
all_fit places (x ∷ xs) o = (let h = o.0 in omega arith, all_fit places xs o.3)

pub no_logs : (xs : List Counter) → EachOpens xs → All (λ (x : Counter). x.log.items ≡ []) xs
no_logs [] o = search rules
no_logs (x ∷ xs) o = All-cons (λ (y : Counter). y.log.items ≡ []) x xs o.2 (no_logs xs o.3)
