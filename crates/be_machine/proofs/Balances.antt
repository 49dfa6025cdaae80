-- Of each kind as many answers were claimed as came, but for those that wait in a cell.
use Rattle.std.proofs.Common.{◌≡◌, ℕ, ◌+◌, Bool, List, [], ◌∷◌, Some, refl}
use Rattle.std.specs.Prelude.{slice_get}
use Rattle.be_actor.specs.declared.Wish.{Wish}
use Rattle.be_script.specs.Script.{Declared}
use Rattle.be_machine.specs.Activities.{Runner, app, looper}
use Rattle.be_machine.specs.declared.Answered.{Answered}
use Rattle.be_reply.specs.Cells as reply
use Rattle.be_machine.specs.Happenings.{Answering, given, claimed}
use Rattle.be_machine.specs.Lists.{at}
use Rattle.be_machine.specs.Looper.{kind_of_reply}
use Rattle.be_machine.specs.Orderly.{Balance, one_if, same_kind, balance_from, AreCovered}
use Rattle.be_machine.specs.Program.{app_gone_on, moved_on}
use Rattle.be_machine.specs.State.{State, App}
use Rattle.be_machine.proofs.Waiting.{total}
use Rattle.be_machine.proofs.WaitingSums.{total_at, total_kept}
use Rattle.std.proofs.Common.{◌≤◌, arith}

-- ---- answers that wait

-- 1 where a reply of this kind is in the cell
abbrev pub in_cell : Answered → reply.Cell → ℕ
in_cell kind (reply.replied message) = one_if (same_kind kind (kind_of_reply message))
in_cell kind reply.waiting = 0
in_cell kind reply.idle = 0

abbrev pub of_app : Answered → App → ℕ
of_app kind a = in_cell kind a.cell

-- the answers that came and weren't claimed are those in the cells
pub record IsBalanced (kind : Answered) (b : Balance) (apps : List App) : Type 0 where
  pub waiting : b.came ≡ b.went + total (of_app kind) apps

-- what an act answers or claims, and the cells behind it
pub record Answers (kind : Answered) (b : Balance) (apps : List App) (answers : List Answering) : Type 0 where
  pub covered : AreCovered kind b answers
  pub balanced : IsBalanced kind (balance_from kind b answers) apps

covered_now : (kind : Answered) (b : Balance) (apps : List App) → IsBalanced kind b apps → b.went ≤ b.came
covered_now kind b apps h = omega (arith, h.waiting)

pub none_answered : (kind : Answered) (b : Balance) (apps others : List App) → total (of_app kind) others ≡ total (of_app kind) apps → IsBalanced kind b apps → Answers kind b others []
none_answered kind b apps others same h = record { covered = covered_now kind b apps h; balanced = record { waiting = omega (arith, same, h.waiting) } }

-- one application's cell changes
pub one_given : (kind other : Answered) (b : Balance) (apps others : List App) → total (of_app kind) others ≡ total (of_app kind) apps + one_if (same_kind kind other) → IsBalanced kind b apps → Answers kind b others (given other ∷ [])
one_given kind other b apps others more h = record {
  covered = (covered_now kind b apps h, omega (arith, h.waiting));
  balanced = record { waiting = omega (arith, more, h.waiting) };
}

pub one_claimed : (kind other : Answered) (b : Balance) (apps others : List App) → total (of_app kind) others + one_if (same_kind kind other) ≡ total (of_app kind) apps → IsBalanced kind b apps → Answers kind b others (claimed other ∷ [])
one_claimed kind other b apps others less h = record {
  covered = (covered_now kind b apps h, omega (arith, less, h.waiting));
  balanced = record { waiting = omega (arith, less, h.waiting) };
}

-- ---- cells that change

pub cell_at_one : (kind : Answered) (apps : List App) (m : ℕ) (f : reply.Cell → reply.Cell) (a : App) → slice_get apps m ≡ Some a → total (of_app kind) (at apps m (λ x. record x { cell = f x.cell })) + in_cell kind a.cell ≡ total (of_app kind) apps + in_cell kind (f a.cell)
cell_at_one kind apps m f a read = total_at (of_app kind) apps m (λ x. record x { cell = f x.cell }) a read

pub same_cells : (kind : Answered) (apps : List App) (m : ℕ) (f : App → App) → ((a : App) → slice_get apps m ≡ Some a → in_cell kind (f a).cell ≡ in_cell kind a.cell) → total (of_app kind) (at apps m f) ≡ total (of_app kind) apps
same_cells kind apps m f keep = total_kept (of_app kind) apps m f keep

-- a looper or an application goes on, and no cell changes
pub moved_cells : (kind : Answered) (d : Declared) (who : Runner) (accepted : Bool) (x : Wish) (s : State) → total (of_app kind) (moved_on d who accepted x s).apps ≡ total (of_app kind) s.apps
unfolding moved_on
moved_cells kind d (app m) accepted x s = same_cells kind s.apps m (app_gone_on d m accepted x) (λ a read. refl)
moved_cells kind d (looper v) accepted x s = refl
