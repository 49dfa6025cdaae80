-- What clauses say of a counter.
use Rattle.std.specs.Prelude.{ℕ, ◌-◌, List}
use Rattle.std.specs.VecDeque.{deque_len, deque_capacity}
use Rattle.small_world.specs.declared.step.Count.{Count}
use Rattle.small_world.specs.declared.step.Step.{Step}
use Rattle.small_world.specs.declared.counter.Counter.{Counter}

-- its units
abbrev pub count_of : Counter → Count
count_of x = x.count

-- the steps that its activity made, each with its number, oldest first
abbrev pub log_of : Counter → List (ℕ × Step)
log_of x = x.log.items

-- for how many steps more there is room in the log
abbrev pub spare_of : Counter → ℕ
spare_of x = deque_capacity x.log - deque_len x.log
