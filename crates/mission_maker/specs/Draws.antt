-- The draws of a mission: the words of a PCG generator, each modulo how many numbers may be drawn.
use Rattle.std.specs.Prelude.{ℕ, ◌%◌}
use Rattle.rand_pcg.specs.Lcg.{Lcg, advance, increment_of, started}
use Rattle.rand_pcg.specs.Pcg.{multiplier_64, pcg32}

-- the generator of the mission with this number, behind `draws` draws: it starts at the number, in stream 0
unfoldable pub generator_behind : ℕ → ℕ → Lcg
generator_behind number draws = advance 64 multiplier_64 draws (started 64 multiplier_64 number (increment_of 64 0))

-- The draw of a number below n that comes behind `draws` others.
unfoldable pub draw : ℕ → ℕ → ℕ → ℕ
draw number draws n = (pcg32 (generator_behind number draws)).0 % n
