-- Since Algorithm B is exact.
use Rattle.hz_orders.proofs.Used.{used-exactly}
use Rattle.hz_orders.proofs.laws.used_by_b.Goals as goal

pub returns : goal.returns
returns c = λ netlist input start a b order circuit begins result_a result_b.
    used-exactly c.b_is_exact.ensures.exact netlist input start a b order.first circuit begins result_a result_b
