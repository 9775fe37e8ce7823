-- What a cost of machines means.
use Rattle.std.specs.Prelude.{vec_items}
use Rattle.cost.specs.Price.{Price}
use Rattle.machines.specs.Times.{machine_price}
use Rattle.machines.specs.declared.machines.Machines.{Machines}

abbrev pub machines_of : Machines → Price
machines_of m = machine_price (vec_items m.weights) (vec_items m.starts) (vec_items m.slowness)
