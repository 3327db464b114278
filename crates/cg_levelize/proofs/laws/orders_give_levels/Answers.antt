use Rattle.cg_levelize.proofs.Levels.{place_of, order_levels, order_no_loop}
use Rattle.cg_levelize.proofs.laws.orders_give_levels.Goals as goal

pub returns : goal.returns
returns c = record { levels = λ rs order is. (place_of order, order_levels rs order is); no_loop = order_no_loop }
