-- Demand 3, from the bottom up: each part rests on those above it.
-- 1. One effect: what it leaves of sets and counter, and the numbers while the counter doesn't wrap.
pub mod Left
pub mod Numbers
-- 2. The reading without numbers: two records alike but for numbers stay alike, and the reading is the run.
pub mod Moves
pub mod Bare
pub mod Runs
-- 3. One locked nexus: how its saved number tells whether a later call acted on the place that its latest page left it using.
pub mod Held
pub mod Others
pub mod Good
pub mod Latest
-- 4. A whole history: cut at its latest power-on, then at the nexus's latest page.
pub mod Cut
pub mod Trails
pub mod Draws
-- 5. The theorem, effects that are no action, and P7 to P9.
pub mod Demand
pub mod NoAction
pub mod Worked
