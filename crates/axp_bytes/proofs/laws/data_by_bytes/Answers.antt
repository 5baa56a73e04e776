use Rattle.axp_bytes.proofs.DataBytes.{extracted_low_byte, extracted_high_byte, extracted_high_whole, inserted_low_byte, inserted_high_byte, masked_low_byte, masked_high_byte}
use Rattle.axp_bytes.proofs.laws.data_by_bytes.Goals as goal

pub returns-clause-extract_low : goal.returns-clause-extract_low
returns-clause-extract_low c = extracted_low_byte

pub returns-clause-extract_high : goal.returns-clause-extract_high
returns-clause-extract_high c = extracted_high_byte

pub returns-clause-extract_high_at_0 : goal.returns-clause-extract_high_at_0
returns-clause-extract_high_at_0 c = extracted_high_whole

pub returns-clause-insert_low : goal.returns-clause-insert_low
returns-clause-insert_low c = inserted_low_byte

pub returns-clause-insert_high : goal.returns-clause-insert_high
returns-clause-insert_high c = inserted_high_byte

pub returns-clause-mask_low : goal.returns-clause-mask_low
returns-clause-mask_low c = masked_low_byte

pub returns-clause-mask_high : goal.returns-clause-mask_high
returns-clause-mask_high c = masked_high_byte
