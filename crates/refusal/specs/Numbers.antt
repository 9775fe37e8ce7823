-- The number of each reason for which a call is declined.
use Rattle.std.specs.Prelude.{ℕ}
use Rattle.refusal.specs.declared.Refusal.{Refusal}
use Rattle.refusal.specs.declared.Refusal.TheVariants.{Torn, Digit, Frame, Turn, Shape, Column, Price, Owners, Blocks, Ceiling, Table, Count, NoCut, Short, Unequal, Capacity}

abbrev pub number_of : Refusal → ℕ
number_of Torn = 1
number_of Digit = 2
number_of Frame = 3
number_of Turn = 4
number_of Shape = 5
number_of Column = 6
number_of Price = 7
number_of Owners = 8
number_of Blocks = 9
number_of Ceiling = 10
number_of Table = 11
number_of Count = 12
number_of NoCut = 13
number_of Short = 14
number_of Unequal = 15
number_of Capacity = 16
