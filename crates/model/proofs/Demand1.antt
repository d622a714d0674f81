-- Demand 1, for all bytes and numbers.
use Rattle.model.specs.Demand1.{Demand1}
use Rattle.model.proofs.Order.{ordered}
use Rattle.model.proofs.Refusals.{refuses, lays_out}
use Rattle.model.proofs.InPlace.{in_place}
use Rattle.model.proofs.Further.{further_refuses}
use Rattle.model.proofs.Misused.{misuses}

pub demand_1 : Demand1
demand_1 = record { calls = refuses; further_calls = further_refuses; ordered = ordered; misuses = misuses; in_place = in_place; layouts = lays_out }
