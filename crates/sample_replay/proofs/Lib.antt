mod CountLaws
mod RecordLaws
