pub mod RefusalLaws
pub mod ShiftLaws
