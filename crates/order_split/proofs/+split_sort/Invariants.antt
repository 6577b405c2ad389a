-- The measure is the budget.
use Rattle.order_split.proofs.+split_sort.Given as goal

abbrev pub decreases-split_sort : goal.decreases-split_sort
decreases-split_sort l = l.budget
