-- The number of each limit, so that a definition that names a limit does not move with the code.
use Rattle.std.specs.Prelude.{◌≡◌, ◌^◌}
use Rattle.ctl_base.specs.declared.limits.TheConstants.{TEXT_BYTES, IMAGE_BYTES, SIDE, PIXELS, MODULES, STAGES, NESTING, CALL_DEPTH, ARRAY_SIZE, SCALARS, INSTANCES, CELLS, VARYING_CELLS, PARTS, TURNS}

pub record LimitsStand : Type 0 where
  pub text_bytes : TEXT_BYTES ≡ 2 ^ 24
  pub image_bytes : IMAGE_BYTES ≡ 2 ^ 30
  pub side : SIDE ≡ 16384
  pub pixels : PIXELS ≡ 2 ^ 26
  pub modules : MODULES ≡ 64
  pub stages : STAGES ≡ 32
  pub nesting : NESTING ≡ 200
  pub call_depth : CALL_DEPTH ≡ 32
  pub array_size : ARRAY_SIZE ≡ 65536
  pub scalars : SCALARS ≡ 2 ^ 20
  pub instances : INSTANCES ≡ 4096
  pub cells : CELLS ≡ 2 ^ 22
  pub varying_cells : VARYING_CELLS ≡ 2 ^ 18
  pub parts : PARTS ≡ 2 ^ 27
  pub turns : TURNS ≡ 1000000
