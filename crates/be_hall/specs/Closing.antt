-- What a closed hall gives.
use Rattle.std.specs.Prelude.{◌≡◌, ℕ, List, map, length}
use Rattle.be_hall.specs.declared.view.About.{About}
use Rattle.be_hall.specs.declared.view.View.{View}
use Rattle.be_hall.specs.Numbers.{once, total}
use Rattle.be_hall.specs.Machine.{Machine, leads}
use Rattle.be_hall.specs.Views.{counted}
use Rattle.be_hall.specs.Logs.{logged, AllInHistory}
use Rattle.be_hall.specs.History.{RisesOver, EachRises, Suits}

module _ {P T M E : Type 0} (machine : P → Machine M E) (meaning : T → M) (log : T → List (ℕ × E))
    (a : About P M) where
  -- One history has each commit of the pass and of those joined into it, and no other entry, and
  -- leads to the parts. It is what the logs of the parts that were in hand spell by number.
  pub record Closes (v : View P M E) (held : List (ℕ × T)) (parts : List T)
      (history : List E) : Type 0 where
    pub suits : Suits machine history v a
    pub each_once : (n : ℕ) → counted n v ≡ once (length history) n
    pub rises : RisesOver 0 v.own × EachRises v.ended
    pub parts_after : map meaning parts ≡ leads (machine a.rules) a.opening history
    pub parts_held : map meaning parts ≡ map (λ x. meaning x.1) held
    pub in_logs : AllInHistory history (map (λ x. log x.1) held)
    pub in_one_log : (n : ℕ) → total (logged n) (map (λ x. log x.1) held) ≡ once (length history) n
