use Rattle.module_path.proofs.Tries.{tried_bytes, tried_long, tried_failed, tried_memory}
use Rattle.module_path.proofs.files.fetch_file.Goals as goal

pub returns-in-Ok-Bytes-clause-tries : goal.returns-in-Ok-Bytes-clause-tries
returns-in-Ok-Bytes-clause-tries g c = λ held told other. tried_bytes _ held _ _ _ _ other _ _ told c.as_str.ensures c.in-Ok-Bytes.field-0-is c.in-Ok-Bytes.ensures.answer c.in-Ok-Bytes.ensures.asks

pub returns-in-Ok-TooLong-clause-tries : goal.returns-in-Ok-TooLong-clause-tries
returns-in-Ok-TooLong-clause-tries g c = λ held told other. tried_long _ held _ _ _ _ other _ _ told c.as_str.ensures c.in-Ok-TooLong.field-0-is c.in-Ok-TooLong.ensures.answer c.in-Ok-TooLong.ensures.asks

pub returns-in-Err-Failed-clause-tries : goal.returns-in-Err-Failed-clause-tries
returns-in-Err-Failed-clause-tries g c = λ held told other. tried_failed _ _ c.in-Err-Failed.field-0 _ _ _ c.as_str.ensures c.in-Err-Failed.field-0-is c.in-Err-Failed.ensures.asks

pub returns-in-Err-Memory-clause-tries : goal.returns-in-Err-Memory-clause-tries
returns-in-Err-Memory-clause-tries g c = λ held told other. tried_memory _ _ c.in-Err-Memory.field-0 _ _ _ c.as_str.ensures c.in-Err-Memory.field-0-is c.in-Err-Memory.ensures.asks
