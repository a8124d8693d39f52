-- The machine simulates the abstract line, which keeps the order.
use Rattle.linearization.proofs.RunSimulation.{machine-keeps-order}
use Rattle.linearization.proofs.order.machine_keeps_order.Goals as goal

pub returns : goal.returns
returns g c = machine-keeps-order
