-- The rows of every call stand in the table's order.
use mathlib.Core.Path.{refl}
use Rattle.buffer.specs.Choice.{pick}
use Rattle.model.specs.Numbers.{teach, correct, erase, read, read_in_place, list, unit_out, repair, grow, shrink, raise, refusals_in}
use Rattle.model.specs.history.Table.{refusals}
use Rattle.model.specs.history.Further.{plan, commit, plan_rows, commit_rows, further_refusals_in, further_refusals}
use Rattle.model.specs.history.Steps.{Step, call, further}
use Rattle.model.specs.Order.{table_order, order_of, behind, in_order, rows_in, rows_by, Ordered}

pub ordered : (x : Step) → Ordered x
unfolding table_order order_of behind in_order rows_in rows_by refusals_in refusals further_refusals_in further_refusals plan_rows commit_rows pick
ordered (call (teach k x)) = record { by_bytes = λ ok v. refl; by_ledger = λ l. refl }
ordered (call (correct k x)) = record { by_bytes = λ ok v. refl; by_ledger = λ l. refl }
ordered (call (erase k)) = record { by_bytes = λ ok v. refl; by_ledger = λ l. refl }
ordered (call (read k x)) = record { by_bytes = λ ok v. refl; by_ledger = λ l. refl }
ordered (call (read_in_place k)) = record { by_bytes = λ ok v. refl; by_ledger = λ l. refl }
ordered (call (list x)) = record { by_bytes = λ ok v. refl; by_ledger = λ l. refl }
ordered (call (unit_out w)) = record { by_bytes = λ ok v. refl; by_ledger = λ l. refl }
ordered (call (repair g)) = record { by_bytes = λ ok v. refl; by_ledger = λ l. refl }
ordered (call grow) = record { by_bytes = λ ok v. refl; by_ledger = λ l. refl }
ordered (call shrink) = record { by_bytes = λ ok v. refl; by_ledger = λ l. refl }
ordered (call raise) = record { by_bytes = λ ok v. refl; by_ledger = λ l. refl }
ordered (further (plan lent)) = record { by_bytes = λ ok v. refl; by_ledger = λ l. refl }
ordered (further (commit lent n)) = record { by_bytes = λ ok v. refl; by_ledger = λ l. refl }
