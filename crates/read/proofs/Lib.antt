-- The laws of readings: the definition by multipliers, and its fast forms at Q 16 and Q 1.
pub mod Readings
pub mod Signs
pub mod Lanes
pub mod PowersOfJ
